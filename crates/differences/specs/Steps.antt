-- The rules that a table asks at a point.
use Rattle.std.specs.Prelude.{◌≡◌, ℕ, suc, if◌then◌else◌, List, [], ◌∷◌, Option, Some, None, map}
use Rattle.policy_table.specs.declared.rules.Quota.{Quota}
use Rattle.policy_table.specs.declared.rules.Rule.{Rule}
use Rattle.regions.specs.declared.points.Point.{Point}
use Rattle.charts.specs.Alike.{said}
use Rattle.charts.specs.Lines.{decision_path}
use Rattle.charts.specs.Points.{decision_at, holds_at}
use Rattle.differences.specs.declared.decision_paths.AskedRule.{AskedRule}

-- after a rule without quota nothing is asked
abbrev pub steps_after : Option Quota → List AskedRule → List AskedRule
steps_after None rest = []
steps_after (Some quota) rest = rest

-- the rules that hold at a point, up to the first without quota, if the first of all has this number
abbrev pub steps_from : (number : ℕ) → List Rule → Point → List AskedRule
steps_from number [] p = []
steps_from number (rule ∷ rules) p =
    if holds_at rule p
    then record { number = number; rule = rule } ∷ steps_after rule.quota (steps_from (suc number) rules p)
    else steps_from (suc number) rules p

-- the same, counted from 1
abbrev pub steps_at : List Rule → Point → List AskedRule
steps_at rules p = steps_from 1 rules p

-- the rules of steps
abbrev pub rules_of : List AskedRule → List Rule
rules_of steps = map (λ step. step.rule) steps

-- their numbers are those of the course of a chart
abbrev pub StepsAreNumbered : Type 0
StepsAreNumbered = (rules : List Rule) (p : Point) → map (λ step. step.number) (steps_at rules p) ≡ decision_path rules p

-- and their decision is that of the table at the point
abbrev pub StepsDecide : Type 0
StepsDecide = (rules : List Rule) (p : Point) (reported : ℕ → ℕ) → said (rules_of (steps_at rules p)) reported ≡ decision_at rules p reported
