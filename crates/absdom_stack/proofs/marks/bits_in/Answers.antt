use Rattle.std.proofs.Common.{arith}
use Rattle.absdom_stack.proofs.MarkMasks.{mask_bits}
use Rattle.absdom_stack.proofs.marks.bits_in.Goals as goal

pub returns : goal.returns
returns c =
    mask_bits c.args.word c.args.first c.args.end c.saturating_sub-low.result c.min-high.result c.requires.first c.requires.end
    (omega (arith, c.saturating_sub-low.ensures))
    (omega (arith, c.min-high.ensures))
