use Rattle.regions.proofs.Bits.{ones}
use Rattle.regions.proofs.byte_sets.ByteSet.all.Goals as goal

pub returns : goal.returns
returns c = λ byte fits. ones byte
