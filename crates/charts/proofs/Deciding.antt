-- Which rule may decide at a point.
use Rattle.std.proofs.Common.{◌≡◌, ◌≤◌, ◌<◌, ◌+◌, ◌^◌, ◌&&◌, ◌||◌, ℕ, zero, suc, max, Bool, true, false, not, List, [], ◌∷◌, ◌++◌, length, Option, Some, None, refl, ap, sym, subst, ◌∙◌, arith}
use Rattle.std.specs.Prelude.{All, MatchBool, MatchOption, if◌then◌else◌, is_none, nat_lt}
use Rattle.std.proofs.lemmas.Bool.Decides.{nat_tests}
use Rattle.std.proofs.lemmas.List.{append-nil}
use Rattle.std.proofs.lemmas.List.Elements.{All-head, All-tail}
use Rattle.std.proofs.lemmas.Bool.{and_parts}
use Rattle.machine.specs.declared.calls.Call.{Call}
use Rattle.rmap.specs.Verdict.{verdict_number}
use Rattle.policy_table.specs.Limits.{IsLimited}
use Rattle.policy_table.specs.Meaning.{AreAnswerWords, ruled}
use Rattle.policy_table.specs.declared.rules.Quota.{Quota}
use Rattle.policy_table.specs.declared.rules.Rule.{Rule}
use Rattle.regions.specs.Questions.{IsSettledBy}
use Rattle.regions.specs.declared.points.Point.{Point}
use Rattle.charts.specs.Alike.{HasLimit, held}
use Rattle.charts.specs.Deciders.{DecidesWithinLimits, NeverDecides, by_quota, decider_from, has_room_to_decide, lets_pass, may_decide}
use Rattle.charts.specs.Points.{decision_at, holds_at, tests_of}
use Rattle.charts.specs.Tickets.{AreTickets, AreTicketsFrom, after, is_of, least_from, raised}
use Rattle.charts.proofs.Least.{ahead, ahead_words, drawn_first, drawn_rest, drawn_answered, from_start, least_more, least_there, none_answered, weaker}
use Rattle.charts.proofs.RuleShapes.{alike_of}
use Rattle.charts.proofs.Sameness.{HoldsAlike, same_decision}

-- ---- one rule and those after it

-- the least tickets after a rule, if it holds
abbrev IsLeastNext : (t : Bool) → Option Quota → (least next : ℕ → ℕ → ℕ) → Type 0
IsLeastNext t quota least next = (map cell : ℕ) → next map cell ≡ (if t then raised quota map cell (least map cell) else least map cell)

least_next_of : (passed : List Rule) (rule : Rule) (p : Point) → IsLeastNext (holds_at rule p) rule.quota (least_from 0 passed) (least_from 0 (passed ++ held p (rule ∷ [])))
least_next_of passed rule p map cell = by_test (holds_at rule p)
  where
    by_test : (t : Bool) → least_from 0 (passed ++ (if t then rule ∷ [] else [])) map cell ≡ (if t then raised rule.quota map cell (least_from 0 passed map cell) else least_from 0 passed map cell)
    by_test true = least_more 0 passed rule map cell
    by_test false = ap (λ (rs : List Rule). least_from 0 rs map cell) (append-nil passed)

-- a decision by a rule that may hold, and by those after it
abbrev run_by : (t : Bool) → Option Quota → (code : ℕ) → (rest : (ℕ → ℕ) → List Call × ℕ) → (ℕ → ℕ) → List Call × ℕ
run_by t quota code rest reported = if t then ruled quota code reported (rest (λ k. reported (suc k))) else rest reported

-- the rule that decides
abbrev decider_by : (t : Bool) → Option Quota → (n : ℕ) → (rest : (ℕ → ℕ) → Option ℕ) → (ℕ → ℕ) → Option ℕ
decider_by t quota n rest reported = if t then by_quota quota n reported (rest (λ k. reported (suc k))) else rest reported

pub is_below : (a b : ℕ) → nat_lt a b ≡ true → a < b
is_below a b h = grind (arith, nat_tests)

pub is_not_below : (a b : ℕ) → nat_lt a b ≡ false → b ≤ a
is_not_below a b h = grind (arith, nat_tests)

pub not_below : (a b : ℕ) → b ≤ a → nat_lt a b ≡ false
not_below a b h = grind (arith, nat_tests)

-- ---- the rule may decide

-- it decides for some tickets that are not below the least
record DecidesFrom (least : ℕ → ℕ → ℕ) (run : (ℕ → ℕ) → List Call × ℕ) (decider : (ℕ → ℕ) → Option ℕ) (place : ℕ) : Type 0 where
  reported : ℕ → ℕ
  words : AreAnswerWords reported
  run_answered : AreTicketsFrom least (run reported).0
  decides : decider reported ≡ Some place

abbrev always : ℕ → ℕ → ℕ
always ticket k = ticket

here : (t : Bool) (quota : Option Quota) (passed : List Rule) (n code : ℕ) (rest : (ℕ → ℕ) → List Call × ℕ) (more : (ℕ → ℕ) → Option ℕ) → IsLimited quota → (t && has_room_to_decide quota passed) ≡ true
    → DecidesFrom (least_from 0 passed) (run_by t quota code rest) (decider_by t quota n more) n
here false quota passed n code rest more limited e = absurd (cc)
here true None passed n code rest more limited e = record { reported = always 0; words = λ k. omega arith; run_answered = none_answered (least_from 0 passed); decides = refl }
here true (Some q) passed n code rest more limited e =
    let t : ℕ = least_from 0 passed q.map q.cell in
    let lt : t < q.limit = is_below t q.limit e in
    record {
      reported = always t;
      words = λ k. omega (arith, lt, limited.2);
      run_answered = drawn_answered (least_from 0 passed) q code (always t) (rest (always t)) (omega arith) (λ none. absurd (not_both (nat_lt t q.limit) e none));
      decides = ap (λ (b : Bool). if b then Some n else more (always t)) e;
    }
  where
    not_both : (b : Bool) → b ≡ true → b ≡ false → ⊥
    not_both true e f = absurd (cc)
    not_both false e f = absurd (cc)

module _ (least next : ℕ → ℕ → ℕ) (n code place bound : ℕ) (rest : (ℕ → ℕ) → List Call × ℕ) (more : (ℕ → ℕ) → Option ℕ) where
  passed_on : (t : Bool) (quota : Option Quota) → IsLeastNext t quota least next → IsLimited quota → 2147483647 ≤ bound → ((map cell : ℕ) → least map cell ≤ bound) → bound < 2 ^ 64 → (not t || lets_pass quota) ≡ true
      → DecidesFrom next rest more place → DecidesFrom least (run_by t quota code rest) (decider_by t quota n more) place
  passed_on false quota is limited limits below fits e h = record { reported = h.reported; words = h.words; run_answered = weaker least next (rest h.reported).0 (λ map cell. omega (arith, is map cell)) h.run_answered; decides = h.decides }
  passed_on true None is limited limits below fits e h = absurd (cc)
  passed_on true (Some q) is limited limits below fits e h = record {
    reported = ahead t h.reported;
    words = ahead_words t h.reported (omega (arith, limited.2, limits, below q.map q.cell, fits)) h.words;
    run_answered = drawn_answered least q code (ahead t h.reported) (rest h.reported) (omega arith) (λ _. weaker (after least q t) next (rest h.reported).0 above h.run_answered);
    decides = ap (λ (b : Bool). if b then Some n else more h.reported) (not_below t q.limit (omega arith)) ∙ h.decides;
  }
    where
      t : ℕ
      t = max (least q.map q.cell) q.limit

      above : (map cell : ℕ) → after least q t map cell ≤ next map cell
      above map cell = by_cell (is_of q map cell) refl (is map cell)
        where
          by_cell : (b : Bool) → is_of q map cell ≡ b → next map cell ≡ (if b then suc (max (least map cell) q.limit) else least map cell) → (if b then suc t else least map cell) ≤ next map cell
          by_cell true c f = let there = least_there least q map cell c in omega (arith, there, f)
          by_cell false c f = omega (arith, f)

-- a bound of the least, after a rule
bound_next : (t : Bool) (quota : Option Quota) (least next : ℕ → ℕ → ℕ) (bound : ℕ) → IsLeastNext t quota least next → IsLimited quota → 2147483647 ≤ bound → ((map cell : ℕ) → least map cell ≤ bound) → (map cell : ℕ) → next map cell ≤ suc bound
bound_next false quota least next bound is limited limits below map cell = omega (arith, is map cell, below map cell)
bound_next true None least next bound is limited limits below map cell = omega (arith, is map cell, below map cell)
bound_next true (Some q) least next bound is limited limits below map cell = by_cell (is_of q map cell) (is map cell)
  where
    by_cell : (b : Bool) → next map cell ≡ (if b then suc (max (least map cell) q.limit) else least map cell) → next map cell ≤ suc bound
    by_cell true f = omega (arith, f, limited.2, limits, below map cell)
    by_cell false f = omega (arith, f, below map cell)

decides_so : (places : ℕ) (passed rules : List Rule) (p : Point) (n bound : ℕ) → All HasLimit rules → 2147483647 ≤ bound → ((map cell : ℕ) → least_from 0 passed map cell ≤ bound) → bound + length rules < 2 ^ 64
    → may_decide passed places rules p ≡ true → DecidesFrom (least_from 0 passed) (decision_at rules p) (decider_from n rules p) (n + places)
decides_so zero passed [] p n bound limits high below few e = absurd (cc)
decides_so (suc places) passed [] p n bound limits high below few e = absurd (cc)
decides_so zero passed (rule ∷ rules) p n bound limits high below few e =
    let own = here (holds_at rule p) rule.quota passed n (verdict_number rule.verdict) (decision_at rules p) (decider_from (suc n) rules p) (All-head HasLimit rule rules limits) e in
    record { reported = own.reported; words = own.words; run_answered = own.run_answered; decides = own.decides ∙ ap Some (omega arith) }
decides_so (suc places) passed (rule ∷ rules) p n bound limits high below few e =
    let parts = and_parts (not (holds_at rule p) || lets_pass rule.quota) (may_decide (passed ++ held p (rule ∷ [])) places rules p) e in
    let limited : HasLimit rule = All-head HasLimit rule rules limits in
    let more = decides_so places (passed ++ held p (rule ∷ [])) rules p (suc n) (suc bound) (All-tail HasLimit rule rules limits) (omega (arith, high))
    (bound_next (holds_at rule p) rule.quota (least_from 0 passed) _ bound (least_next_of passed rule p) limited high below) (omega (arith, few)) parts.1 in
    let own = passed_on (least_from 0 passed) (least_from 0 (passed ++ held p (rule ∷ []))) n (verdict_number rule.verdict) (suc n + places) bound (decision_at rules p) (decider_from (suc n) rules p)
    (holds_at rule p) rule.quota (least_next_of passed rule p) limited high below (omega (arith, few)) parts.0 more in
    record { reported = own.reported; words = own.words; run_answered = own.run_answered; decides = own.decides ∙ ap Some (omega arith) }

-- ---- it may not

other_place : (a b : ℕ) → ¬ (a ≡ b) → ¬ (Some a ≡ Some b)
other_place a b apart e = apart (inside a b e)
  where
    inside : (a b : ℕ) → Some a ≡ Some b → a ≡ b
    inside a b e = cc (e)

-- the rule that decides is at its place or after it
least_by : (t : Bool) (quota : Option Quota) (n m : ℕ) (reported : ℕ → ℕ) (a b : Option ℕ) → (a ≡ Some m → n ≤ m) → (b ≡ Some m → n ≤ m) → (if t then by_quota quota n reported a else b) ≡ Some m → n ≤ m
least_by false quota n m reported a b f g e = g e
least_by true None n m reported a b f g e = let same : n ≡ m = cc (e) in omega (arith, same)
least_by true (Some quota) n m reported a b f g e = by_test (nat_lt (reported 0) quota.limit) e
  where
    by_test : (t : Bool) → (if t then Some n else a) ≡ Some m → n ≤ m
    by_test true e = let same : n ≡ m = cc (e) in omega (arith, same)
    by_test false e = f e

least : (n : ℕ) (rules : List Rule) (p : Point) (reported : ℕ → ℕ) (m : ℕ) → decider_from n rules p reported ≡ Some m → n ≤ m
least n [] p reported m e = absurd (cc)
least n (rule ∷ rules) p reported m e =
    least_by (holds_at rule p) rule.quota n m reported (decider_from (suc n) rules p (λ k. reported (suc k))) (decider_from (suc n) rules p reported)
    (λ h. omega (arith, least (suc n) rules p (λ k. reported (suc k)) m h)) (λ h. omega (arith, least (suc n) rules p reported m h)) e

not_here : (t : Bool) (quota : Option Quota) (passed : List Rule) (n code : ℕ) (reported : ℕ → ℕ) (rest : List Call × ℕ) (a b : Option ℕ) → (t && has_room_to_decide quota passed) ≡ false
    → AreTicketsFrom (least_from 0 passed) (if t then ruled quota code reported rest else rest).0 → ¬ (a ≡ Some n) → ¬ (b ≡ Some n) → ¬ ((if t then by_quota quota n reported a else b) ≡ Some n)
not_here false quota passed n code reported rest a b e run f g h = g h
not_here true None passed n code reported rest a b e run f g h = absurd (cc)
not_here true (Some q) passed n code reported rest a b e run f g h =
    let least : least_from 0 passed q.map q.cell ≤ reported 0 = drawn_first (least_from 0 passed) q code reported rest run in
    let none : nat_lt (reported 0) q.limit ≡ false = not_below (reported 0) q.limit (omega (arith, least, is_not_below (least_from 0 passed q.map q.cell) q.limit e)) in
    f (sym (ap (λ (t : Bool). if t then Some n else a) none) ∙ h)

module _ (least next : ℕ → ℕ → ℕ) (n m code : ℕ) (reported : ℕ → ℕ) (may : Bool) (rest : (ℕ → ℕ) → List Call × ℕ) (more : (ℕ → ℕ) → Option ℕ) (lt : n < m)
    (never : may ≡ false → (t : ℕ → ℕ) → AreTicketsFrom next (rest t).0 → ¬ (more t ≡ Some m)) where
  not_after : (t : Bool) (quota : Option Quota) → IsLeastNext t quota least next → ((not t || lets_pass quota) && may) ≡ false → AreTicketsFrom least (run_by t quota code rest reported).0 → ¬ (decider_by t quota n more reported ≡ Some m)
  not_after false quota is e run h = never e reported (weaker next least (rest reported).0 (λ map cell. omega (arith, is map cell)) run) h
  not_after true None is e run h = other_place n m (λ same. absurd (omega (arith, same, lt))) h
  not_after true (Some q) is e run h = by_test (nat_lt (reported 0) q.limit) refl h
    where
      on : ℕ → ℕ
      on k = reported (suc k)

      le : least q.map q.cell ≤ reported 0
      le = drawn_first least q code reported (rest on) run

      below : q.limit ≤ reported 0 → (map cell : ℕ) → next map cell ≤ after least q (reported 0) map cell
      below high map cell = by_cell (is_of q map cell) refl (is map cell)
        where
          by_cell : (b : Bool) → is_of q map cell ≡ b → next map cell ≡ (if b then suc (max (least map cell) q.limit) else least map cell) → next map cell ≤ (if b then suc (reported 0) else least map cell)
          by_cell true c f = let there = least_there least q map cell c in omega (arith, there, f, le, high)
          by_cell false c f = omega (arith, f)

      by_test : (b : Bool) → nat_lt (reported 0) q.limit ≡ b → (if b then Some n else more on) ≡ Some m → ⊥
      by_test true f k = other_place n m (λ same. absurd (omega (arith, same, lt))) k
      by_test false f k = never e on (weaker next (after least q (reported 0)) (rest on).0 (below (is_not_below (reported 0) q.limit f)) (drawn_rest least q code reported (rest on) f run)) k

decides_not : (places : ℕ) (passed rules : List Rule) (p : Point) (n m : ℕ) → m ≡ n + places → may_decide passed places rules p ≡ false → (reported : ℕ → ℕ) → AreTicketsFrom (least_from 0 passed) (decision_at rules p reported).0 → ¬ (decider_from n rules p reported ≡ Some m)
decides_not zero passed [] p n m is e reported run h = absurd (cc)
decides_not (suc places) passed [] p n m is e reported run h = absurd (cc)
decides_not zero passed (rule ∷ rules) p n m is e reported run h =
    let same : m ≡ n = omega (arith, is) in
    by_holds (holds_at rule p) e run (h ∙ ap Some same)
  where
    by_holds : (t : Bool) → (t && has_room_to_decide rule.quota passed) ≡ false → AreTicketsFrom (least_from 0 passed) (run_by t rule.quota (verdict_number rule.verdict) (decision_at rules p) reported).0
        → decider_by t rule.quota n (decider_from (suc n) rules p) reported ≡ Some n → ⊥
    by_holds true e run k =
        not_here true rule.quota passed n (verdict_number rule.verdict) reported (decision_at rules p (λ k. reported (suc k))) (decider_from (suc n) rules p (λ k. reported (suc k))) (decider_from (suc n) rules p reported) e run
        (λ k. absurd (omega (arith, least (suc n) rules p (λ k. reported (suc k)) n k))) (λ k. absurd (omega (arith, least (suc n) rules p reported n k))) k
    by_holds false e run k = absurd (omega (arith, least (suc n) rules p reported n k))
decides_not (suc places) passed (rule ∷ rules) p n m is e reported run h =
    not_after (least_from 0 passed) (least_from 0 (passed ++ held p (rule ∷ []))) n m (verdict_number rule.verdict) reported (may_decide (passed ++ held p (rule ∷ [])) places rules p) (decision_at rules p) (decider_from (suc n) rules p) (omega (arith, is))
    (λ none t there. decides_not places (passed ++ held p (rule ∷ [])) rules p (suc n) m (omega (arith, is)) none t there)
    (holds_at rule p) rule.quota (least_next_of passed rule p) e run h

-- the answer of the test, negated
pub never_by_test : (t : Bool) (rules : List Rule) (place : ℕ) (p : Point) → t ≡ may_decide [] place rules p → MatchBool (not t) (NeverDecides rules place p) (DecidesWithinLimits rules place p)
never_by_test true rules place p e = λ limited.
    let d = decides_so place [] rules p 0 2147483647 limited.limits (omega arith) (λ map cell. omega arith) (omega (arith, limited.few)) (sym e) in
    record { reported = d.reported; words = d.words; tickets = d.run_answered.tickets; decider = d.decides ∙ ap Some (omega arith) }
never_by_test false rules place p e = λ reported tickets h.
    decides_not place [] rules p 0 place (omega arith) (sym e) reported (from_start (least_from 0 []) (decision_at rules p reported).0 (λ map cell. refl) tickets) h

-- ---- two points alike

chosen : (t u : Bool) (a b c d : Option ℕ) → t ≡ u → a ≡ c → b ≡ d → (if t then a else b) ≡ (if u then c else d)
chosen t u a b c d e h k = rw (e, h, k) refl

same_decider : (n : ℕ) (rules : List Rule) (p q : Point) (reported : ℕ → ℕ) → All (HoldsAlike p q) rules → decider_from n rules p reported ≡ decider_from n rules q reported
same_decider n [] p q reported same = refl
same_decider n (rule ∷ rules) p q reported same =
    let rest : All (HoldsAlike p q) rules = All-tail (HoldsAlike p q) rule rules same in
    chosen (holds_at rule p) (holds_at rule q) _ _ _ _ (All-head (HoldsAlike p q) rule rules same)
    (ap (λ (d : Option ℕ). by_quota rule.quota n reported d) (same_decider (suc n) rules p q (λ k. reported (suc k)) rest)) (same_decider (suc n) rules p q reported rest)

pub never_settled : (rules : List Rule) (place : ℕ) → IsSettledBy (tests_of rules) (NeverDecides rules place)
never_settled rules place p q _ _ same never reported tickets h =
    never reported (subst (λ (d : List Call × ℕ). AreTickets d.0) (same_decision rules p q (alike_of rules p q same) reported) tickets)
    (sym (same_decider 0 rules p q reported (alike_of rules p q same)) ∙ h)

pub none_by : (o : Option Point) (P R : Type 0) (Q : Point → Type 0) → MatchOption o P Q → ((p : Point) → Q p → R) → MatchBool (is_none o) P R
none_by None P R Q h f = h
none_by (Some p) P R Q h f = f p h

pub turned_twice : (t u : Bool) → t ≡ not u → not t ≡ u
turned_twice true true e = absurd (cc)
turned_twice true false e = refl
turned_twice false true e = refl
turned_twice false false e = absurd (cc)
