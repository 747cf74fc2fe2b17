use Rattle.std.proofs.Common.{ℕ, ◌++◌, ap}
use Rattle.std.specs.Prelude.{codes, decimal}
use Rattle.job_live.specs.CellLines.{word_text}
use Rattle.job_live.proofs.CellRows.{row_printed}
use Rattle.job_live.proofs.cell_lines.print_words.Goals as goal

pub loop-key-preserved : goal.loop-key-preserved
loop-key-preserved g c =
    row_printed (word_text c.args.node.now.words c.args.map) c.loop-key.key _ _ _ _
    (ap (λ (n : ℕ). codes " " ++ decimal n) c.word_at-word.ensures) c.loop-key.invariant c.in_ok-write.ensures.bytes
