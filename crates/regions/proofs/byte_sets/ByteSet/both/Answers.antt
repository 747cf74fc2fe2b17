use Rattle.regions.proofs.Bits.{both}
use Rattle.regions.proofs.byte_sets.ByteSet.both.Goals as goal

pub returns : goal.returns
returns c = λ byte. both c.args.self.now.low c.args.self.now.high c.args.other.now.low c.args.other.now.high byte
