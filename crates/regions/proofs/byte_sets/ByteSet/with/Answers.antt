use Rattle.regions.proofs.Bits.{either}
use Rattle.regions.proofs.byte_sets.ByteSet.with.Goals as goal

pub returns : goal.returns
returns c = λ byte. either c.args.self.now.low c.args.self.now.high c.args.other.now.low c.args.other.now.high byte
