-- The limits of the rules of a table, and of those that it asks.
use Rattle.std.proofs.Common.{◌≡◌, ℕ, suc, Bool, true, false, List, [], ◌∷◌, Option, Some, None, subst, sym}
use Rattle.std.specs.Prelude.{All, if◌then◌else◌}
use Rattle.std.proofs.lemmas.List.Elements.{All-cons, All-head, All-nil, All-tail, All-weaker}
use Rattle.charts.specs.Alike.{HasLimit}
use Rattle.charts.specs.Points.{holds_at}
use Rattle.differences.specs.Gains.{HasStepLimit}
use Rattle.differences.specs.Steps.{steps_at, steps_after, steps_from}
use Rattle.differences.specs.declared.decision_paths.AskedRule.{AskedRule}
use Rattle.policy_table.specs.Limits.{FitsFields}
use Rattle.policy_table.specs.declared.rules.Quota.{Quota}
use Rattle.policy_table.specs.declared.rules.Rule.{Rule}
use Rattle.regions.specs.declared.points.Point.{Point}

-- rules whose numbers fit their fields have limits such as a table has
pub limited : (rules : List Rule) → All FitsFields rules → All HasLimit rules
limited rules fit = All-weaker FitsFields HasLimit (λ rule fits. fits.quota) rules fit

-- what is asked after a rule
following : (quota : Option Quota) (rest : List AskedRule) → All HasStepLimit rest → All HasStepLimit (steps_after quota rest)
following None rest limits = All-nil HasStepLimit
following (Some quota) rest limits = limits

-- a rule, which is asked if it holds
asked : (holds : Bool) (step : AskedRule) (more rest : List AskedRule) → HasStepLimit step → All HasStepLimit more → All HasStepLimit rest
    → All HasStepLimit (if holds then step ∷ more else rest)
asked true step more rest own limits others = All-cons HasStepLimit step more own limits
asked false step more rest own limits others = others

steps_have : (number : ℕ) (rules : List Rule) (p : Point) → All HasLimit rules → All HasStepLimit (steps_from number rules p)
steps_have number [] p limits = All-nil HasStepLimit
steps_have number (rule ∷ rules) p limits =
    let rest = steps_have (suc number) rules p (All-tail HasLimit rule rules limits) in
    asked (holds_at rule p) (record { number = number; rule = rule }) (steps_after rule.quota (steps_from (suc number) rules p)) (steps_from (suc number) rules p)
    (All-head HasLimit rule rules limits) (following rule.quota (steps_from (suc number) rules p) rest) rest

-- the rules that a table asks have limits such as a table has
pub steps_limited : (steps : List AskedRule) (rules : List Rule) (p : Point) → steps ≡ steps_at rules p → All HasLimit rules → All HasStepLimit steps
steps_limited steps rules p is limits = subst (λ found. All HasStepLimit found) (sym is) (steps_have 1 rules p limits)
