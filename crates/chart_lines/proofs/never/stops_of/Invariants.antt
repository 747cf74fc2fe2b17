use Rattle.std.proofs.Common.{[]}
use Rattle.chart_lines.specs.Never.{AddsStopAt}
use Rattle.chart_lines.specs.Reporting.{PrintsFirst}
use Rattle.chart_lines.proofs.never.stops_of.Given as goal

abbrev pub invariant-loop-place : goal.invariant-loop-place
invariant-loop-place l = PrintsFirst (AddsStopAt l.tables l.line l.before) l.place [] l.stops.items
