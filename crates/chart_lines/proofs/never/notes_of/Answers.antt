use Rattle.std.proofs.Common.{[]}
use Rattle.chart_lines.specs.Never.{IsNotedAt}
use Rattle.chart_lines.proofs.Reporting.{reports_more}
use Rattle.chart_lines.proofs.never.notes_of.Goals as goal

pub loop-place-preserved : goal.loop-place-preserved
loop-place-preserved c =
    reports_more (IsNotedAt c.args.tables.now c.args.rules.now) c.loop-place.place [] c.loop-place.notes.items c.add_note.new.notes.items c.loop-place.invariant c.in_ok-add_note.ensures
