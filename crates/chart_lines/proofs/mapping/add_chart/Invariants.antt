use Rattle.chart_lines.specs.Mapped.{PrintsLine}
use Rattle.chart_lines.specs.Reporting.{PrintsFirst}
use Rattle.chart_lines.proofs.mapping.add_chart.Given as goal

abbrev pub invariant-loop-place : goal.invariant-loop-place
invariant-loop-place l = PrintsFirst (PrintsLine l.ports l.at l.chart) l.place l.fn.rows.items l.rows.items
