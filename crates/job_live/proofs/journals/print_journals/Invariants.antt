use Rattle.std.specs.Io.KnownBytes.{Appends}
use Rattle.std.specs.List.{flat_map, range_with_len}
use Rattle.job_live.specs.Journals.{due_text}
use Rattle.job_live.proofs.journals.print_journals.Given as goal

abbrev pub invariant-loop-bank : goal.invariant-loop-bank
invariant-loop-bank g l =
    Appends (g.W.Write.contents l.fn.out) (g.W.Write.contents l.out)
    (flat_map (due_text l.each l.node.banks) (range_with_len 0 l.bank))
