use Rattle.absdom_stack.proofs.MarkMasks.{bits_had, has_bits}
use Rattle.absdom_stack.proofs.marks.has_all.Goals as goal

pub returns : goal.returns
returns c = (has_bits c.args.word c.args.bits, bits_had c.args.word c.args.bits c.ranges.bits.fits)
