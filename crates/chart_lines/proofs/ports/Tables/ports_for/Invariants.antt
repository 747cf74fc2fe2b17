use Rattle.std.proofs.Common.{◌≡◌}
use Rattle.chart_lines.specs.Ports.{names_port, stands_for, wanted_below}
use Rattle.chart_lines.proofs.ports.Tables.ports_for.Given as goal

abbrev pub invariant-loop-port : goal.invariant-loop-port
invariant-loop-port l = l.ports.items ≡ wanted_below (λ port. stands_for (λ p. names_port l.self p) l.own port) l.port
