use Rattle.std.proofs.Common.{[]}
use Rattle.chart_lines.specs.Never.{AddsStopAt}
use Rattle.chart_lines.proofs.Reporting.{reports_more}
use Rattle.chart_lines.proofs.never.stops_of.Goals as goal

pub loop-place-preserved : goal.loop-place-preserved
loop-place-preserved c =
    reports_more (AddsStopAt c.args.tables.now c.args.line c.args.before.now) c.loop-place.place [] c.loop-place.stops.items c.add_stop_at.new.stops.items c.loop-place.invariant c.in_ok-add_stop_at.ensures
