use Rattle.std.proofs.Common.{arith}
use Rattle.regions.proofs.Bits.{without}
use Rattle.regions.proofs.byte_sets.ByteSet.without.Goals as goal

pub returns : goal.returns
returns c = λ byte fits. without c.args.self.now.low c.args.self.now.high c.args.other.now.low c.args.other.now.high byte (omega arith) (omega arith)
