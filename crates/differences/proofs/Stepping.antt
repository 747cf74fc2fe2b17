-- The rules that are asked at a point, one after another.
use Rattle.std.proofs.Common.{◌≡◌, ◌<◌, ◌+◌, ◌^◌, ℕ, suc, Bool, true, false, List, [], ◌∷◌, ◌++◌, length, get_or, take, drop, drop-cons, add-one, Option, Some, None, refl, ap, sym, ◌∙◌, arith}
use Rattle.std.specs.Prelude.{All, if◌then◌else◌, map}
use Rattle.std.proofs.lemmas.List.{take_more}
use Rattle.std.proofs.lemmas.List.Elements.{All-cons, All-head, All-nil, All-tail}
use Rattle.rmap.specs.Verdict.{verdict_number}
use Rattle.machine.specs.declared.calls.Call.{Call}
use Rattle.policy_table.specs.Meaning.{ruled}
use Rattle.policy_table.specs.declared.rules.Quota.{Quota}
use Rattle.policy_table.specs.declared.rules.Rule.{Rule}
use Rattle.regions.specs.declared.points.Point.{Point}
use Rattle.charts.specs.Alike.{AreLimited, HasLimit, said}
use Rattle.charts.specs.Lines.{path_from, goes_on}
use Rattle.charts.specs.Points.{decision_at, holds_at}
use Rattle.differences.specs.Gains.{HasStepLimit}
use Rattle.differences.specs.Steps.{StepsAreNumbered, StepsDecide, rules_of, steps_at, steps_after, steps_from}
use Rattle.differences.specs.declared.decision_paths.AskedRule.{AskedRule}

numbers_of : (number : ℕ) (rules : List Rule) (p : Point) → map (λ step. step.number) (steps_from number rules p) ≡ path_from number rules p
numbers_of number [] p = refl
numbers_of number (rule ∷ rules) p = kept (holds_at rule p) rule.quota (steps_from (suc number) rules p) (path_from (suc number) rules p) (numbers_of (suc number) rules p)
  where
    following : (quota : Option Quota) (steps : List AskedRule) (decision_path : List ℕ) → map (λ step. step.number) steps ≡ decision_path → map (λ step. step.number) (steps_after quota steps) ≡ goes_on quota decision_path
    following None steps decision_path e = refl
    following (Some quota) steps decision_path e = e

    kept : (t : Bool) (quota : Option Quota) (steps : List AskedRule) (decision_path : List ℕ) → map (λ step. step.number) steps ≡ decision_path
        → map (λ step. step.number) (if t then record { number = number; rule = rule } ∷ steps_after quota steps else steps) ≡ (if t then number ∷ goes_on quota decision_path else decision_path)
    kept true quota steps decision_path e = ap (λ (ns : List ℕ). number ∷ ns) (following quota steps decision_path e)
    kept false quota steps decision_path e = e

pub steps_are_numbered : StepsAreNumbered
steps_are_numbered rules p = numbers_of 1 rules p

said_from : (number : ℕ) (rules : List Rule) (p : Point) (reported : ℕ → ℕ) → said (rules_of (steps_from number rules p)) reported ≡ decision_at rules p reported
said_from number [] p reported = refl
said_from number (rule ∷ rules) p reported =
    kept (holds_at rule p) rule.quota (steps_from (suc number) rules p) (λ t. decision_at rules p t) (λ t. said_from (suc number) rules p t) refl
  where
    following : (quota : Option Quota) (code : ℕ) (steps : List AskedRule) (rest : (ℕ → ℕ) → List Call × ℕ) → ((t : ℕ → ℕ) → said (rules_of steps) t ≡ rest t)
        → ruled quota code reported (said (rules_of (steps_after quota steps)) (λ k. reported (suc k))) ≡ ruled quota code reported (rest (λ k. reported (suc k)))
    following None code steps rest e = refl
    following (Some quota) code steps rest e = ap (λ (d : List Call × ℕ). ruled (Some quota) code reported d) (e (λ k. reported (suc k)))

    kept : (t : Bool) (quota : Option Quota) (steps : List AskedRule) (rest : (ℕ → ℕ) → List Call × ℕ) → ((u : ℕ → ℕ) → said (rules_of steps) u ≡ rest u) → rule.quota ≡ quota
        → said (rules_of (if t then record { number = number; rule = rule } ∷ steps_after quota steps else steps)) reported
        ≡ (if t then ruled quota (verdict_number rule.verdict) reported (rest (λ k. reported (suc k))) else rest reported)
    kept true quota steps rest e q = ap (λ (o : Option Quota). ruled o (verdict_number rule.verdict) reported (said (rules_of (steps_after quota steps)) (λ k. reported (suc k)))) q ∙ following quota (verdict_number rule.verdict) steps rest e
    kept false quota steps rest e q = e reported

pub steps_decide : StepsDecide
steps_decide rules p reported = said_from 1 rules p reported

-- the limits of the rules of steps
rule_limits : (steps : List AskedRule) → All HasStepLimit steps → All HasLimit (rules_of steps)
rule_limits [] h = All-nil HasLimit
rule_limits (s ∷ ss) h = All-cons HasLimit s.rule (rules_of ss) (All-head HasStepLimit s ss h) (rule_limits ss (All-tail HasStepLimit s ss h))

-- there are as many of them
pub count_rules : (steps : List AskedRule) → length (rules_of steps) ≡ length steps
count_rules [] = refl
count_rules (s ∷ ss) = ap suc (count_rules ss)

pub limited_rules : (steps : List AskedRule) → All HasStepLimit steps → length steps < 2 ^ 62 → AreLimited (rules_of steps)
limited_rules steps limits few = record { limits = rule_limits steps limits; few = omega (arith, few, count_rules steps) }

-- ---- one step more

-- the rules after `n` steps begin with that of the next
pub rules_here : (steps : List AskedRule) (n : ℕ) (d : AskedRule) → n < length steps → rules_of (drop n steps) ≡ (get_or steps n d).rule ∷ rules_of (drop (n + 1) steps)
rules_here steps n d lt =
    ap rules_of (drop-cons steps n d lt) ∙ ap (λ (k : ℕ). (get_or steps n d).rule ∷ rules_of (drop k steps)) (sym (add-one n))

pub rules_append : (steps others : List AskedRule) → rules_of (steps ++ others) ≡ rules_of steps ++ rules_of others
rules_append [] others = refl
rules_append (s ∷ ss) others = ap (λ (rs : List Rule). s.rule ∷ rs) (rules_append ss others)

-- those of one step more end with it
pub rules_more : (steps : List AskedRule) (n : ℕ) (d : AskedRule) → n < length steps → rules_of (take (n + 1) steps) ≡ rules_of (take n steps) ++ (get_or steps n d).rule ∷ []
rules_more steps n d lt = ap rules_of (take_more steps n d lt) ∙ rules_append (take n steps) (get_or steps n d ∷ [])
