use Rattle.std.proofs.Common.{◌≡◌, ◌+◌, ◌++◌, drop}
use Rattle.differences.specs.Steps.{steps_at, steps_from}
use Rattle.differences.proofs.decision_paths.decision_path.Given as goal

abbrev pub invariant-loop-rule : goal.invariant-loop-rule
invariant-loop-rule l = (l.number ≡ l.rule-index) × (l.steps.items ++ steps_from (l.number + 1) (drop l.rule-index l.rules) l.point ≡ steps_at l.rules l.point)
