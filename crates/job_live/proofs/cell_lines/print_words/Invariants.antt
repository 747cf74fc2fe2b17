use Rattle.std.specs.Io.KnownBytes.{Appends}
use Rattle.job_live.specs.CellLines.{words_text}
use Rattle.job_live.proofs.cell_lines.print_words.Given as goal

abbrev pub invariant-loop-key : goal.invariant-loop-key
invariant-loop-key g l =
    Appends (g.W.Write.contents l.fn.out) (g.W.Write.contents l.out) (words_text l.node.words l.map l.key)
