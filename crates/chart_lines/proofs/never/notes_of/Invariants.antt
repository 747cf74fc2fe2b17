use Rattle.std.proofs.Common.{[]}
use Rattle.chart_lines.specs.Never.{IsNotedAt}
use Rattle.chart_lines.specs.Reporting.{PrintsFirst}
use Rattle.chart_lines.proofs.never.notes_of.Given as goal

abbrev pub invariant-loop-place : goal.invariant-loop-place
invariant-loop-place l = PrintsFirst (IsNotedAt l.tables l.rules) l.place [] l.notes.items
