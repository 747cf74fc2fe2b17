use Rattle.std.proofs.Common.{[]}
use Rattle.chart_lines.specs.Mapped.{PrintsPorts}
use Rattle.chart_lines.proofs.mapping.rows_at_all.Given as goal

abbrev pub invariant-loop-port : goal.invariant-loop-port
invariant-loop-port l = PrintsPorts l.asked l.policy l.port [] l.rows.items
