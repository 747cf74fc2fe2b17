use Rattle.std.proofs.Common.{◌≡◌, ◌++◌, drop, map}
use Rattle.chart_lines.specs.Rows.{on_line}
use Rattle.chart_lines.proofs.rows.rules_on_lines.Given as goal

abbrev pub invariant-loop-step : goal.invariant-loop-step
invariant-loop-step l = l.found.items ++ map (on_line l.lines) (drop l.step-index l.steps) ≡ map (on_line l.lines) l.steps
