use Rattle.chart_lines.specs.Compared.{PrintsLine}
use Rattle.chart_lines.specs.Reporting.{PrintsFirst}
use Rattle.chart_lines.proofs.comparing.add_chart.Given as goal

abbrev pub invariant-loop-place : goal.invariant-loop-place
invariant-loop-place l = PrintsFirst (PrintsLine l.ports l.comparison.old.now l.comparison.new.now l.comparison.chart.now) l.place l.fn.rows.items l.rows.items
