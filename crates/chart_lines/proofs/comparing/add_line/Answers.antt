use Rattle.std.proofs.lemmas.Result.{on_ok_weaker}
use Rattle.chart_lines.proofs.Apart.{others_compared}
use Rattle.chart_lines.proofs.Reporting.{line_compared}
use Rattle.chart_lines.proofs.comparing.add_line.Goals as goal

pub returns : goal.returns
returns c =
    on_ok_weaker c.add_row.result (λ is. line_compared c.charts_are_read.ensures.plain c.args.comparison.asked.now c.args.ports.now c.args.comparison.old.now c.args.comparison.new.now c.args.comparison.chart.now c.requires.comparison c.args.place c.line_at-line.result c.in-Some.point c.in_ok-reported.reported c.args.rows.now.items c.add_row.new.rows.items
    c.requires.place c.line_at-line.ensures c.in-Some.ensures c.in_ok-reported.ensures is) c.add_row.ensures

pub add_row-requires : goal.add_row-requires
add_row-requires c =
    others_compared c.charts_are_read.ensures.plain c.args.comparison.asked.now c.args.ports.now c.args.comparison.old.now c.args.comparison.new.now c.args.comparison.chart.now c.requires.comparison c.args.place c.line_at-line.result c.in-Some.point c.in_ok-reported.reported c.args.rows.now.items c.args.from
    c.requires.place c.line_at-line.ensures c.in-Some.ensures c.in_ok-reported.ensures c.requires.reported
