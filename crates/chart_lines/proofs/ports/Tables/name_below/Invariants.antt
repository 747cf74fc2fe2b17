use Rattle.std.proofs.Common.{◌≡◌}
use Rattle.chart_lines.specs.Ports.{are_named, names_port}
use Rattle.chart_lines.proofs.ports.Tables.name_below.Given as goal

abbrev pub invariant-loop-below : goal.invariant-loop-below
invariant-loop-below l = l.are_named ≡ are_named (λ own. names_port l.self own) l.below
