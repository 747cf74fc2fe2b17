use Rattle.std.proofs.Common.{[]}
use Rattle.chart_lines.specs.Compared.{PrintsPorts}
use Rattle.chart_lines.proofs.comparing.rows_at_all.Given as goal

abbrev pub invariant-loop-port : goal.invariant-loop-port
invariant-loop-port l = PrintsPorts l.asked l.old l.new l.port [] l.rows.items
