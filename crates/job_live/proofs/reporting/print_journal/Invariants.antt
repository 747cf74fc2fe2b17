use Rattle.std.proofs.Common.{take}
use Rattle.std.specs.Io.KnownBytes.{Appends}
use Rattle.std.specs.List.{flat_map}
use Rattle.job_live.specs.Reporting.{entry_line}
use Rattle.job_live.proofs.reporting.print_journal.Given as goal

abbrev pub invariant-loop-entry : goal.invariant-loop-entry
invariant-loop-entry g l =
    Appends (g.W.Write.contents l.fn.out) (g.W.Write.contents l.out) (flat_map entry_line (take l.entry-index l.entries))
