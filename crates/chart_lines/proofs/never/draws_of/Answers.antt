use Rattle.std.proofs.Common.{[]}
use Rattle.chart_lines.specs.Never.{AddsDrawAt}
use Rattle.chart_lines.proofs.Reporting.{reports_more}
use Rattle.chart_lines.proofs.never.draws_of.Goals as goal

pub loop-place-preserved : goal.loop-place-preserved
loop-place-preserved c =
    reports_more (AddsDrawAt c.args.tables.now c.args.rule.now c.args.before.now) c.loop-place.place [] c.loop-place.draws.items c.add_draw_at.new.draws.items c.loop-place.invariant c.in_ok-add_draw_at.ensures
