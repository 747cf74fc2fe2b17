-- A quota of N matches at most N commands of a node of one thread. The matching draw of each is answered by how many
-- tickets of the cell were drawn before it, which is below N.
use Rattle.std.specs.Prelude.{◌==◌, ◌&&◌, IsTrue, if◌then◌else◌}
use Rattle.std.proofs.Common.{◌≡◌, ◌<◌, ◌≤◌, ◌+◌, ◌^◌, ℕ, Bool, true, false, List, [], ◌∷◌, ◌++◌, length, refl, ap, subst, ◌∙◌, arith, inl, inr, length-append}
use Rattle.std.proofs.lemmas.Bool.{and_from, eq-eqb}
use Rattle.bank.specs.Records.{JudgedValue}
use Rattle.bver.specs.Justified.{AcceptedValue}
use Rattle.machine.specs.declared.calls.Call.{Call}
use Rattle.machine.specs.Helpers.{takes_kind}
use Rattle.machine.specs.Sizes.{Maps, kind_of_map}
use Rattle.machine.specs.declared.kinds.MapKind.{MapKind}
use Rattle.machine.specs.declared.kinds.MapKind.TheVariants.{Counter, Peak}
use Rattle.machine.specs.declared.helpers.Helper.TheVariants as helpers
use Rattle.node_programs.proofs.Shelves.{sizes_stay}
use Rattle.node_programs.specs.declared.publishes.Publish.{Publish}
use Rattle.node_programs.specs.Histories.{entry}
use Rattle.node_programs.specs.Published.{sizes_of}
use Rattle.node_parts.specs.Passes.{PassValue}
use Rattle.node_parts.specs.Served.{IsAnswered, PartsValue, parts}
use Rattle.node_parts.specs.Steps.{IsJudgement}
use Rattle.node_parts.specs.declared.config.NodeConfig.{NodeConfig}
use Rattle.node_parts.specs.declared.served.Served.{Served}
use Rattle.node_parts.specs.declared.served.Served.TheVariants.{Stopped, Unread, Done, Window}
use Rattle.plain_cells.specs.Words.{AreCallsOn, AreCells, CallsKeepCells, IsOfCell, TicketsAreCounted, is_draw, tickets_in, answer_by_words, key_word_at, words_after_question, ZerosAreCells}
use Rattle.quotas.specs.Alone.{AreMatches, NodeCall, IsMatch, IsMatchBy, IsMatchOf, QuotasHoldAlone, Way, calls_by, helper_calls_of, further, here, rotates, serves, sets, tickets_on}
use Rattle.quotas.proofs.Deciding.{EndsLow, drawn_of, ends_below}
use Rattle.sched.specs.Looking.{seen_header_in}
use Rattle.single_node.specs.Nodes.{IsFreshNode, SingleNodeValue}
use Rattle.single_node.specs.Serving.{AreKeptOrLonger, AsksCells}
use Rattle.spw.specs.Cargo.{Cargo}

-- ---- the last call of a match

ends_low : (map key limit : ℕ) {h after : PassValue} {p : Cargo} {j : JudgedValue} (judgement : IsJudgement h after p j) → IsMatch map key limit judgement → EndsLow judgement.calls map key limit
ends_low map key limit {p = p} judgement m = ends_below m.rules (seen_header_in p) judgement.calls map key m.own_limit limit m.match m.small

ends_by : (map key limit : ℕ) (served : Served) (p : Cargo) (old new : PartsValue) (h after : PassValue) (reply : List ℕ) (answered : IsAnswered served p old new h after reply)
    → IsMatchBy map key limit served p old new h after reply answered → EndsLow (calls_by served p old new h after reply answered) map key limit
ends_by map key limit (Stopped stop) p old new h after reply answered m = absurd m
ends_by map key limit Unread p old new h after reply answered m = absurd m
ends_by map key limit (Done result) p old new h after reply answered m = ends_low map key limit answered.judgement m
ends_by map key limit (Window status) p old new h after reply answered m = ends_low map key limit answered.judgement m

ends_of : (map key limit : ℕ) {before after : SingleNodeValue} (deed : NodeCall before after) → IsMatchOf map key limit deed → EndsLow (helper_calls_of deed) map key limit
ends_of map key limit {before} {after} (serves served port packet reply s) m =
    ends_by map key limit served packet (parts before.banks before.programs) (parts after.banks after.programs) s.holder s.left reply s.answered m
ends_of map key limit (rotates number fresh old s) m = absurd m
ends_of map key limit (sets number address bytes fresh old s) m = absurd m

-- ---- what the last draw is told

-- the words before the last call, by which it was answered
record IsLastOn (sizes : Maps) (words : List (List ℕ)) (before : List Call) (c : Call) : Type 0 where
  between : List (List ℕ)
  calls : AreCallsOn sizes words before between
  of : IsOfCell sizes c.question
  reported : c.answer ≡ answer_by_words between c.question

last_on : (sizes : Maps) (words following : List (List ℕ)) (before : List Call) (c : Call) → AreCallsOn sizes words (before ++ c ∷ []) following → IsLastOn sizes words before c
last_on sizes words following [] c calls = record { between = words; calls = refl; of = calls.0; reported = calls.1 }
last_on sizes words following (b ∷ bs) c calls =
    let rest = last_on sizes (words_after_question words b.question) following bs c calls.2 in
    record { between = rest.between; calls = (calls.0, calls.1, rest.calls); of = rest.of; reported = rest.reported }

is_own : (map key : ℕ) → (map == map && key == key) ≡ true
is_own map key = and_from (map == map) (key == key) (eq-eqb map map refl) (eq-eqb key key refl)

one_ticket : (t : Bool) (rest n : ℕ) → rest ≡ n + 1 → (if t then rest + 1 else rest) ≡ (if t then n + 1 else n) + 1
one_ticket true rest n is = omega (arith, is)
one_ticket false rest n is = is

drawn_last : (before : List Call) (map key answer : ℕ) → tickets_in (before ++ drawn_of map key answer ∷ []) map key ≡ tickets_in before map key + 1
drawn_last [] map key answer = ap (λ (t : Bool). if t then tickets_in [] map key + 1 else tickets_in [] map key) (is_own map key)
drawn_last (b ∷ bs) map key answer = one_ticket (is_draw b.question map key) (tickets_in (bs ++ drawn_of map key answer ∷ []) map key) (tickets_in bs map key) (drawn_last bs map key answer)

counter_is : (kind : MapKind) → IsTrue (takes_kind helpers.Ticket kind) → kind ≡ Counter
counter_is Counter takes = refl
counter_is Peak takes = cc

-- the answer to the last ticket of the calls is one less than were drawn with it
answered_last : TicketsAreCounted → (sizes : Maps) (words following : List (List ℕ)) (calls : List Call) (map key limit word : ℕ) → AreCells sizes words → AreCallsOn sizes words calls following
    → (kind_of_map sizes map ≡ Counter → key_word_at words map key ≡ word) → word + tickets_in calls map key < 2 ^ 64 → EndsLow calls map key limit
    → (0 < tickets_in calls map key) × (word + tickets_in calls map key ≤ limit)
answered_last law sizes words following calls map key limit word cells on stands few ends =
    let last = last_on sizes words following ends.before (drawn_of map key ends.answer) (subst (λ (cs : List Call). AreCallsOn sizes words cs following) ends.is on) in
    let counter = counter_is (kind_of_map sizes map) last.of.kind in
    let count : tickets_in calls map key ≡ tickets_in ends.before map key + 1 = ap (λ (cs : List Call). tickets_in cs map key) ends.is ∙ drawn_last ends.before map key ends.answer in
    let was = stands counter in
    let reported = last.reported ∙ law sizes words last.between ends.before map key cells counter last.calls (omega (arith, was, count, few)) in
    (omega (arith, count), omega (arith, count, reported, was, ends.below))

-- ---- a node on its way

calls_on : (sizes : Maps) (served : Served) (p : Cargo) (old new : PartsValue) (h after : PassValue) (reply : List ℕ) (answered : IsAnswered served p old new h after reply) (words following : List (List ℕ))
    → AsksCells sizes served p old new h after reply answered words following → AreCallsOn sizes words (calls_by served p old new h after reply answered) following
calls_on sizes (Stopped stop) p old new h after reply answered words following is = is
calls_on sizes Unread p old new h after reply answered words following is = absurd is
calls_on sizes (Done result) p old new h after reply answered words following is = is
calls_on sizes (Window status) p old new h after reply answered words following is = is

-- after a call on a node
record GoesOn (before after : SingleNodeValue) (calls : List Call) : Type 0 where
  on : AreCallsOn (sizes_of before.programs) before.words calls after.words
  sizes : sizes_of after.programs ≡ sizes_of before.programs
  some : 0 < length after.programs

longer : (before after : SingleNodeValue) (calls : List Call) (served : Served) → AreCallsOn (sizes_of before.programs) before.words calls after.words → AreKeptOrLonger served before.programs after.programs → 0 < length before.programs
    → GoesOn before after calls
longer before after calls served on is some = elim is.longer [
  | inl same ↦ record { on = on; sizes = ap sizes_of same; some = rw same some }
  | inr more ↦ record {
    on = on;
    sizes = ap sizes_of more.2 ∙ sizes_stay before.programs _ some;
    some = omega (arith, ap (λ (l : List Publish). length l) more.2, length-append before.programs (entry more.0 more.1 ∷ []), some);
  }
]

goes_on : {before after : SingleNodeValue} (deed : NodeCall before after) → 0 < length before.programs → GoesOn before after (helper_calls_of deed)
goes_on {before} {after} (serves served port packet reply s) some = longer before after _ served (calls_on (sizes_of before.programs) served packet (parts before.banks before.programs) (parts after.banks after.programs) s.holder s.left reply s.answered before.words after.words s.cells) s.programs some
goes_on {before} {after} (rotates number fresh old s) some = record {
  on = ap (λ (n : SingleNodeValue). n.words) s.rotated;
  sizes = ap (λ (n : SingleNodeValue). sizes_of n.programs) s.rotated;
  some = omega (arith, ap (λ (n : SingleNodeValue). length n.programs) s.rotated, some);
}
goes_on {before} {after} (sets number address bytes fresh old s) some = record {
  on = ap (λ (n : SingleNodeValue). n.words) s.set;
  sizes = ap (λ (n : SingleNodeValue). sizes_of n.programs) s.set;
  some = omega (arith, ap (λ (n : SingleNodeValue). length n.programs) s.set, some);
}

-- the same with the maps by another name
on_maps : (sizes : Maps) {before after : SingleNodeValue} (deed : NodeCall before after) → sizes_of before.programs ≡ sizes → GoesOn before after (helper_calls_of deed) → AreCallsOn sizes before.words (helper_calls_of deed) after.words
on_maps sizes {before} {after} deed same goes = subst (λ (s : Maps). AreCallsOn s before.words (helper_calls_of deed) after.words) same goes.on

-- what is so after a way of a fresh node: the word of a counter is how many tickets of it were drawn
record Stands (sizes : Maps) (map key : ℕ) {first last : SingleNodeValue} (way : Way first last) : Type 0 where
  sizes_are : sizes_of last.programs ≡ sizes
  some : 0 < length last.programs
  cells : AreCells sizes last.words
  word : kind_of_map sizes map ≡ Counter → tickets_on way map key < 2 ^ 64 → key_word_at last.words map key ≡ tickets_on way map key

module _ (counted : TicketsAreCounted) (keep : CallsKeepCells) (zeros : ZerosAreCells) (config : NodeConfig) (factory : AcceptedValue) (first : SingleNodeValue) (fresh : IsFreshNode config factory first) (map key : ℕ) where
  stands : {last : SingleNodeValue} (way : Way first last) → Stands factory.sizes map key way
  stands here =
      let words = ap (λ (n : SingleNodeValue). n.words) fresh in
      record {
        sizes_are = ap (λ (n : SingleNodeValue). sizes_of n.programs) fresh;
        some = omega (arith, ap (λ (n : SingleNodeValue). length n.programs) fresh);
        cells = rw words (zeros factory.sizes).0;
        word = λ counter few. ap (λ (w : List (List ℕ)). key_word_at w map key) words ∙ (zeros factory.sizes).1 map key;
      }
  stands (further way deed) =
      let was = stands way in
      let goes = goes_on deed was.some in
      let on = on_maps factory.sizes deed was.sizes_are goes in
      record {
        sizes_are = goes.sizes ∙ was.sizes_are;
        some = goes.some;
        cells = keep factory.sizes _ _ (helper_calls_of deed) was.cells on;
        word = λ counter few.
            let word = was.word counter (omega (arith, few)) in
            counted factory.sizes _ _ (helper_calls_of deed) map key was.cells counter on (omega (arith, word, few)) ∙ ap (λ n. n + tickets_in (helper_calls_of deed) map key) word;
      }

  holds : (limit : ℕ) {last : SingleNodeValue} (way : Way first last) (count : ℕ) → tickets_on way map key < 2 ^ 64 → AreMatches map key limit way count → (count ≤ tickets_on way map key) × (count ≤ limit)
  holds limit here count few none = (omega (arith, none), omega (arith, none))
  holds limit (further way deed) count few matches =
      let less : tickets_on way map key < 2 ^ 64 = omega (arith, few) in
      elim matches [
        | inl others ↦ let rest = holds limit way count less others in (omega (arith, rest.0), rest.1)
        | inr one ↦
            let rest = holds limit way one.0 less one.2 in
            let was = stands way in
            let goes = goes_on deed was.some in
            let on = on_maps factory.sizes deed was.sizes_are goes in
            let low = answered_last counted factory.sizes _ _ (helper_calls_of deed) map key limit (tickets_on way map key) was.cells on (λ counter. was.word counter less) few (ends_of map key limit deed one.3) in
            (omega (arith, one.1, rest.0, low.0), omega (arith, one.1, rest.0, low.0, low.1))
      ]

pub quotas_hold_alone : TicketsAreCounted → CallsKeepCells → ZerosAreCells → QuotasHoldAlone
quotas_hold_alone counted keep zeros config factory first last way map key limit count fresh few matches = (holds counted keep zeros config factory first fresh map key limit way count few matches).1
