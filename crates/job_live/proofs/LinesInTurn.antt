-- Lines that are answered in turn.
use Rattle.std.proofs.Common.{◌≡◌, ◌+◌, ℕ, suc, Bool, true, false, List, [], ◌∷◌, ◌++◌, length, Option, Some, refl, sym, ap, subst, arith}
use Rattle.std.specs.Prelude.{◌||◌}
use Rattle.std.proofs.lemmas.List.{length-append}
use Rattle.job_parts.specs.declared.stops.JobStop.{JobStop}
use Rattle.job_nodes.specs.LiveNodes.{LiveNodeValue}
use Rattle.job_live.specs.Talking.{ComesLine, Misses, Sends}
use Rattle.job_live.specs.LiveJob.{AnswersNext, ExchangesLine, IsBrokenOff, IsUnanswered, Talks}

-- if the first is false, only the second counts
or_false : (a b : Bool) → a ≡ false → (a || b) ≡ (b || false)
or_false true b e = cc
or_false false true e = refl
or_false false false e = refl

-- one more at the end
or_more : (all first others last : Bool) → all ≡ (first || others) → (all || last) ≡ (first || (others || last))
or_more all true others last e = ap (λ (b : Bool). b || last) e
or_more all false others last e = ap (λ (b : Bool). b || last) e

-- one more line
pub talks_more : {T : Type 0} (received : ComesLine T) (sent : Sends T) (at_once : Bool) (lines : List (List ℕ)) (line : List ℕ) (count number : ℕ) (a b c : LiveNodeValue) (s t u : T) (some_bad is_bad : Bool)
    → Talks received sent at_once lines count a b s t some_bad → number ≡ suc (count + length lines)
    → AnswersNext received sent at_once line number b c t u is_bad
    → Talks received sent at_once (lines ++ line ∷ []) count a c s u (some_bad || is_bad)
talks_more {T} received sent at_once [] line count number a b c s t u some_bad is_bad all at one =
    let first : number ≡ suc count = omega (arith, at) in
    let numbered : AnswersNext received sent at_once line (suc count) b c t u is_bad = subst (λ (n : ℕ). AnswersNext received sent at_once line n b c t u is_bad) first one in
    let placed : AnswersNext received sent at_once line (suc count) a c t u is_bad = subst (λ (x : LiveNodeValue). AnswersNext received sent at_once line (suc count) x c t u is_bad) all.0 numbered in
    let begun : AnswersNext received sent at_once line (suc count) a c s u is_bad = subst (λ (x : T). AnswersNext received sent at_once line (suc count) a c x u is_bad) all.1 placed in
    (c, u, is_bad, false, begun, (refl, refl, refl), or_false some_bad is_bad all.2)
talks_more {T} received sent at_once (first ∷ lines) line count number a b c s t u some_bad is_bad all at one = (
  all.0,
  all.1,
  all.2,
  all.3 || is_bad,
  all.4,
  talks_more received sent at_once lines line (suc count) number all.0 b c all.1 t u all.3 is_bad all.5 (omega (arith, at)) one,
  or_more some_bad all.2 all.3 is_bad all.6,
)

-- Some lines came and were answered, and the number of the next is one more than how many they are.
pub record IsUnderWay {T : Type 0} (received : ComesLine T) (sent : Sends T) (at_once : Bool) (number : ℕ) (before now : LiveNodeValue) (start at : T) (some_bad : Bool) : Type 0 where
  pub lines : List (List ℕ)
  pub counted : number ≡ suc (length lines)
  pub talks : Talks received sent at_once lines 0 before now start at some_bad

-- none yet
pub none_yet : {T : Type 0} (received : ComesLine T) (sent : Sends T) (at_once : Bool) (node : LiveNodeValue) (talk : T) → IsUnderWay received sent at_once 1 node node talk talk false
none_yet received sent at_once node talk = record { lines = []; counted = refl; talks = (refl, refl, refl) }

-- the next one
pub next_one : {T : Type 0} (received : ComesLine T) (sent : Sends T) (at_once : Bool) (number : ℕ) (a b c : LiveNodeValue) (s t u : T) (line : List ℕ) (some_bad is_bad : Bool)
    → IsUnderWay received sent at_once number a b s t some_bad → AnswersNext received sent at_once line number b c t u is_bad
    → IsUnderWay received sent at_once (number + 1) a c s u (some_bad || is_bad)
next_one received sent at_once number a b c s t u line some_bad is_bad way one = record {
  lines = way.lines ++ line ∷ [];
  counted = omega (arith, way.counted, length-append way.lines (line ∷ []));
  talks = talks_more received sent at_once way.lines line 0 number a b c s t u some_bad is_bad way.talks (omega (arith, way.counted)) one;
}

-- A line that came and was answered is the next one.
pub goes_on : {T : Type 0} (received : ComesLine T) (sent : Sends T) (at_once : Bool) (number : ℕ) (a b c : LiveNodeValue) (s t u : T) (went : Option Bool) (some_bad is_bad both : Bool)
    → IsUnderWay received sent at_once number a b s t some_bad → ExchangesLine received sent at_once number went b c t u → went ≡ Some is_bad → both ≡ (some_bad || is_bad)
    → IsUnderWay received sent at_once (number + 1) a c s u both
goes_on {T} received sent at_once number a b c s t u went some_bad is_bad both way exchanged is both_is =
    let one = subst (λ (w : Option Bool). ExchangesLine received sent at_once number w b c t u) is exchanged in
    subst (λ (x : Bool). IsUnderWay received sent at_once (number + 1) a c s u x) (sym both_is) (next_one received sent at_once number a b c s t u one.0 some_bad is_bad way one.1)

-- A line that was not answered, after those that were.
pub breaks_off : {T : Type 0} (received : ComesLine T) (sent unsent : Sends T) (missed : Misses T) (at_once : Bool) (number : ℕ) (a b c : LiveNodeValue) (s t u : T) (some_bad : Bool) (halt : JobStop)
    → IsUnderWay received sent at_once number a b s t some_bad → IsUnanswered received sent unsent missed at_once number b c t u halt
    → IsBrokenOff received sent unsent missed at_once a c s u halt
breaks_off received sent unsent missed at_once number a b c s t u some_bad halt way unanswered = record {
  lines = way.lines;
  left = b;
  last = t;
  some_bad = some_bad;
  talks = way.talks;
  unanswered = subst (λ (n : ℕ). IsUnanswered received sent unsent missed at_once n b c t u halt) way.counted unanswered;
}
