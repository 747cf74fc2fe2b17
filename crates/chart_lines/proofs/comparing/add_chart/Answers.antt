use Rattle.std.proofs.Common.{ap, length}
use Rattle.chart_lines.specs.Compared.{PrintsLine}
use Rattle.chart_lines.proofs.Reporting.{reports_more}
use Rattle.chart_lines.proofs.comparing.add_chart.Goals as goal

pub loop-place-preserved : goal.loop-place-preserved
loop-place-preserved c =
    reports_more (PrintsLine c.args.ports.now c.args.comparison.old.now c.args.comparison.new.now c.args.comparison.chart.now) c.loop-place.place c.args.rows.now.items c.loop-place.rows.items c.add_line.new.rows.items
    c.loop-place.invariant c.in_ok-add_line.ensures

pub add_line-requires-clause-reported : goal.add_line-requires-clause-reported
add_line-requires-clause-reported c = record {
  first = c.args.rows.now.items;
  counted = ap (λ rows. length rows) c.as_slice-from.ensures.value;
  reported = c.loop-place.invariant;
}
