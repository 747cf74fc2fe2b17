-- Decisions that end by the match of a rule with a quota. Their last draw is that rule's, and its answer is less than
-- its limit.
use Rattle.std.specs.Prelude.{nat_lt, if◌then◌else◌}
use Rattle.std.proofs.Common.{◌≡◌, ◌<◌, ◌≤◌, ℕ, suc, Bool, true, false, List, [], ◌∷◌, ◌++◌, Option, Some, None, refl, sym, ap, ap₂, ◌∙◌, subst, arith}
use Rattle.std.proofs.lemmas.Bool.{ltb-true}
use Rattle.machine.specs.declared.calls.Call.{Call}
use Rattle.machine.specs.declared.helpers.Helper.TheVariants as helpers
use Rattle.machine.specs.Memory.{Header}
use Rattle.rmap.specs.Verdict.{verdict_number}
use Rattle.policy_table.specs.Matching.{EndsByMatch, matched_by, matching_quota}
use Rattle.policy_table.specs.Meaning.{decision, draw, holds, ruled}
use Rattle.policy_table.specs.declared.rules.Quota.{Quota}
use Rattle.policy_table.specs.declared.rules.Rule.{Rule}
use Rattle.sched.specs.Turns.{answers_of_calls}
use Rattle.quotas.proofs.Ends.{answers_after, snoc_last}

-- the last of the calls is a draw of the quota whose answer is less than its limit
pub record EndsInDraw (calls : List Call) (quota : Quota) : Type 0 where
  pub before : List Call
  pub answer : ℕ
  pub is : calls ≡ before ++ draw quota answer ∷ []
  pub below : answer < quota.limit

some-is : (p q : Quota) → ◌≡◌ {A = Option Quota} (Some p) (Some q) → p ≡ q
some-is p q e = cc

drawn : (own : Quota) (reported : ℕ) → reported < own.limit → EndsInDraw (draw own reported ∷ []) own
drawn own reported below = record { before = []; answer = reported; is = refl; below = below }

by_ticket : (own quota : Quota) (code : ℕ) (reported : ℕ → ℕ) (rest : List Call × ℕ) (later : Option Quota) (t : Bool) → nat_lt (reported 0) own.limit ≡ t
    → (later ≡ Some quota → EndsInDraw rest.0 quota) → (if t then Some own else later) ≡ Some quota
    → EndsInDraw (if◌then◌else◌ {A = List Call × ℕ} t (draw own (reported 0) ∷ [], code) (draw own (reported 0) ∷ rest.0, rest.1)).0 quota
by_ticket own quota code reported rest later true is others e =
    subst (λ (q : Quota). EndsInDraw (draw own (reported 0) ∷ []) q) (some-is own quota e) (drawn own (reported 0) (ltb-true (reported 0) own.limit is))
by_ticket own quota code reported rest later false is others e =
    let l = others e in
    record { before = draw own (reported 0) ∷ l.before; answer = l.answer; is = ap (λ (calls : List Call). draw own (reported 0) ∷ calls) l.is; below = l.below }

by_quota : (own : Option Quota) (quota : Quota) (code : ℕ) (reported : ℕ → ℕ) (rest : List Call × ℕ) (later : Option Quota)
    → (later ≡ Some quota → EndsInDraw rest.0 quota) → matched_by own reported later ≡ Some quota → EndsInDraw (ruled own code reported rest).0 quota
by_quota None quota code reported rest later others e = cc
by_quota (Some own) quota code reported rest later others e = by_ticket own quota code reported rest later (nat_lt (reported 0) own.limit) refl others e

by_conditions : (t : Bool) (quota : Quota) (mine other : Option Quota) (ours others : List Call × ℕ)
    → (mine ≡ Some quota → EndsInDraw ours.0 quota) → (other ≡ Some quota → EndsInDraw others.0 quota)
    → (if t then mine else other) ≡ Some quota → EndsInDraw (if t then ours else others).0 quota
by_conditions true quota mine other ours others here there e = here e
by_conditions false quota mine other ours others here there e = there e

pub ends_in_draw : (rules : List Rule) (header : Header) (reported : ℕ → ℕ) (quota : Quota) → matching_quota rules header reported ≡ Some quota → EndsInDraw (decision rules header reported).0 quota
ends_in_draw [] header reported quota e = cc
ends_in_draw (rule ∷ rules) header reported quota e =
    let code : ℕ = verdict_number rule.verdict in
    let further : ℕ → ℕ = λ k. reported (suc k) in
    let later : List Call × ℕ = decision rules header further in
    by_conditions (holds rule header) quota (matched_by rule.quota reported (matching_quota rules header further)) (matching_quota rules header reported) (ruled rule.quota code reported later) (decision rules header reported)
    (by_quota rule.quota quota code reported later (matching_quota rules header further) (ends_in_draw rules header further quota))
    (ends_in_draw rules header reported quota) e

-- the call that draws a ticket of the cell
abbrev pub drawn_of : (map key answer : ℕ) → Call
drawn_of map key answer = record { question = record { helper = helpers.Ticket; map = map; key = key; argument = 0 }; answer = answer }

-- the last of the calls draws a ticket of the cell, and its answer is less than the limit
pub record EndsLow (calls : List Call) (map key limit : ℕ) : Type 0 where
  pub before : List Call
  pub answer : ℕ
  pub is : calls ≡ before ++ drawn_of map key answer ∷ []
  pub below : answer < limit

pub ends_below : (rules : List Rule) (header : Header) (calls : List Call) (map key own_limit limit : ℕ) → EndsByMatch rules header calls map key own_limit → own_limit ≤ limit
    → EndsLow calls map key limit
ends_below rules header calls map key own_limit limit e small =
    let l = ends_in_draw rules header e.reported e.quota e.matched in
    record {
      before = l.before;
      answer = l.answer;
      is = e.draws ∙ l.is ∙ ap₂ (λ (a b : ℕ). l.before ++ drawn_of a b l.answer ∷ []) e.of_map e.of_cell;
      below = omega (arith, l.below, e.of_limit, small);
    }

-- the answer to the last call is below the limit
pub match_below : (rules : List Rule) (header : Header) (calls : List Call) (map key limit : ℕ) (before : List ℕ) (answer : ℕ) → EndsByMatch rules header calls map key limit
    → answers_of_calls calls ≡ before ++ answer ∷ [] → answer < limit
match_below rules header calls map key limit before answer ends answered =
    let l = ends_in_draw rules header ends.reported ends.quota ends.matched in
    let both : before ++ answer ∷ [] ≡ answers_of_calls l.before ++ l.answer ∷ [] = sym answered ∙ ap answers_of_calls (ends.draws ∙ l.is) ∙ answers_after l.before (draw ends.quota l.answer) in
    let same : l.answer ≡ answer = sym (snoc_last before (answers_of_calls l.before) answer l.answer both) in
    let small : answer < ends.quota.limit = subst (λ (k : ℕ). k < ends.quota.limit) same l.below in
    subst (λ (k : ℕ). answer < k) ends.of_limit small
