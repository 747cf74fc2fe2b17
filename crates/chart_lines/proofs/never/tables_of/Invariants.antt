use Rattle.chart_lines.specs.Never.{AreTables}
use Rattle.chart_lines.proofs.never.tables_of.Given as goal

abbrev pub invariant-loop-port : goal.invariant-loop-port
invariant-loop-port l = AreTables l.policy l.port l.tables.items
