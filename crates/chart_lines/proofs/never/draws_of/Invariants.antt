use Rattle.std.proofs.Common.{[]}
use Rattle.chart_lines.specs.Never.{AddsDrawAt}
use Rattle.chart_lines.specs.Reporting.{PrintsFirst}
use Rattle.chart_lines.proofs.never.draws_of.Given as goal

abbrev pub invariant-loop-place : goal.invariant-loop-place
invariant-loop-place l = PrintsFirst (AddsDrawAt l.tables l.rule l.before) l.place [] l.draws.items
