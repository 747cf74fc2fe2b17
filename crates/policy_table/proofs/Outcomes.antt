-- What tables decide, rule by rule.
use Rattle.std.specs.Prelude.{nat_lt, if◌then◌else◌}
use Rattle.std.proofs.Common.{◌≡◌, ◌≤◌, ℕ, suc, Bool, true, false, List, [], ◌∷◌, ◌++◌, length, Option, Some, None, refl, ap, ◌∙◌, arith}
use Rattle.std.proofs.lemmas.List.Elements.{All-head, All-tail}
use Rattle.machine.specs.declared.calls.Call.{Call}
use Rattle.machine.specs.Memory.{Header}
use Rattle.machine.specs.Runs.{AreAnswered}
use Rattle.rmap.specs.Verdict.{verdict_number}
use Rattle.policy_table.specs.Laws.{DrawsAreAnswered, DrawsAreFew, FirstRuleDecides, HeadersHaveFields, NoRuleRefuses}
use Rattle.policy_table.specs.Meaning.{decision, draw, holds, ruled}
use Rattle.policy_table.specs.declared.rules.Quota.{Quota}
use Rattle.policy_table.specs.declared.rules.Rule.{Rule}

pub have_fields : HeadersHaveFields
have_fields c = record {
  key = refl;
  initiator = refl;
  extended = refl;
  address = refl;
  length = refl;
  kind = refl;
  increment = refl;
}

-- one of two decisions
abbrev chosen : Bool → (held other : List Call × ℕ) → List Call × ℕ
chosen t held other = if t then held else other

-- ---- how many draws

few_drawn : (t : Bool) (c : Call) (code : ℕ) (rest : List Call × ℕ) (n : ℕ) → length rest.0 ≤ n
    → length (chosen t (c ∷ [], code) (c ∷ rest.0, rest.1)).0 ≤ suc n
few_drawn true c code rest n h = omega arith
few_drawn false c code rest n h = omega (arith, h)

few_ruled : (quota : Option Quota) (code : ℕ) (reported : ℕ → ℕ) (rest : List Call × ℕ) (n : ℕ) → length rest.0 ≤ n
    → length (ruled quota code reported rest).0 ≤ suc n
few_ruled None code reported rest n h = omega arith
few_ruled (Some quota) code reported rest n h =
    few_drawn (nat_lt (reported 0) quota.limit) (draw quota (reported 0)) code rest n h

few_if : (t : Bool) (held other : List Call × ℕ) (n : ℕ) → length held.0 ≤ suc n → length other.0 ≤ n
    → length (chosen t held other).0 ≤ suc n
few_if true held other n h g = h
few_if false held other n h g = omega (arith, g)

pub draws_are_few : DrawsAreFew
draws_are_few [] header reported = omega arith
draws_are_few (rule ∷ rules) header reported =
    few_if (holds rule header) (ruled rule.quota (verdict_number rule.verdict) reported (decision rules header (λ k. reported (suc k)))) (decision rules header reported) (length rules)
    (few_ruled rule.quota (verdict_number rule.verdict) reported (decision rules header (λ k. reported (suc k))) (length rules) (draws_are_few rules header (λ k. reported (suc k))))
    (draws_are_few rules header reported)

-- ---- their answers

answered_drawn : (t : Bool) (quota : Quota) (code : ℕ) (reported : ℕ → ℕ) (rest : List Call × ℕ) → AreAnswered (λ k. reported (suc k)) rest.0
    → AreAnswered reported (chosen t (draw quota (reported 0) ∷ [], code) (draw quota (reported 0) ∷ rest.0, rest.1)).0
answered_drawn true quota code reported rest h = (refl, tt)
answered_drawn false quota code reported rest h = (refl, h)

answered_ruled : (quota : Option Quota) (code : ℕ) (reported : ℕ → ℕ) (rest : List Call × ℕ) → AreAnswered (λ k. reported (suc k)) rest.0
    → AreAnswered reported (ruled quota code reported rest).0
answered_ruled None code reported rest h = tt
answered_ruled (Some quota) code reported rest h = answered_drawn (nat_lt (reported 0) quota.limit) quota code reported rest h

answered_if : (t : Bool) (reported : ℕ → ℕ) (held other : List Call × ℕ) → AreAnswered reported held.0 → AreAnswered reported other.0
    → AreAnswered reported (chosen t held other).0
answered_if true reported held other h g = h
answered_if false reported held other h g = g

pub draws_are_answered : DrawsAreAnswered
draws_are_answered [] header reported = tt
draws_are_answered (rule ∷ rules) header reported =
    answered_if (holds rule header) reported (ruled rule.quota (verdict_number rule.verdict) reported (decision rules header (λ k. reported (suc k)))) (decision rules header reported)
    (answered_ruled rule.quota (verdict_number rule.verdict) reported (decision rules header (λ k. reported (suc k))) (draws_are_answered rules header (λ k. reported (suc k))))
    (draws_are_answered rules header reported)

-- ---- which rule decides

pub skipped : (t : Bool) (held other : List Call × ℕ) → t ≡ false → chosen t held other ≡ other
skipped true held other e = cc
skipped false held other e = refl

pub taken : (t : Bool) (held other : List Call × ℕ) → t ≡ true → chosen t held other ≡ held
taken true held other e = refl
taken false held other e = cc

pub unlimited : (quota : Option Quota) (code : ℕ) (reported : ℕ → ℕ) (rest : List Call × ℕ) → quota ≡ None
    → ruled quota code reported rest ≡ ([], code)
unlimited None code reported rest e = refl
unlimited (Some quota) code reported rest e = cc

-- a rule whose conditions do not hold says nothing
pub passes_over : (rule : Rule) (rules : List Rule) (header : Header) (reported : ℕ → ℕ) → holds rule header ≡ false
    → decision (rule ∷ rules) header reported ≡ decision rules header reported
passes_over rule rules header reported e =
    skipped (holds rule header) (ruled rule.quota (verdict_number rule.verdict) reported (decision rules header (λ k. reported (suc k)))) (decision rules header reported) e

-- a rule whose conditions hold rules
pub rules_by : (rule : Rule) (rules : List Rule) (header : Header) (reported : ℕ → ℕ) → holds rule header ≡ true
    → decision (rule ∷ rules) header reported ≡ ruled rule.quota (verdict_number rule.verdict) reported (decision rules header (λ k. reported (suc k)))
rules_by rule rules header reported e =
    taken (holds rule header) (ruled rule.quota (verdict_number rule.verdict) reported (decision rules header (λ k. reported (suc k)))) (decision rules header reported) e

pub first_rule : FirstRuleDecides
first_rule [] after rule header reported all held none =
    rules_by rule after header reported held ∙ unlimited rule.quota (verdict_number rule.verdict) reported (decision after header (λ k. reported (suc k))) none
first_rule (other ∷ before) after rule header reported all held none =
    let P : Rule → Type 0 = λ r. holds r header ≡ false in
    passes_over other (before ++ rule ∷ after) header reported (All-head P other before all)
    ∙ first_rule before after rule header reported (All-tail P other before all) held none

pub no_rule : NoRuleRefuses
no_rule [] header reported all = refl
no_rule (rule ∷ rules) header reported all =
    let P : Rule → Type 0 = λ r. holds r header ≡ false in
    passes_over rule rules header reported (All-head P rule rules all) ∙ no_rule rules header reported (All-tail P rule rules all)

-- ---- answers that are the same

pub decision_same : (rules : List Rule) (header : Header) (reported other : ℕ → ℕ) → ((k : ℕ) → reported k ≡ other k) → decision rules header reported ≡ decision rules header other
decision_same rules header reported other same =
    let functions : reported ≡ other = λ i. λ k. same k i in ap (λ (f : ℕ → ℕ). decision rules header f) functions
