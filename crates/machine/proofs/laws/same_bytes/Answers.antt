use Rattle.machine.proofs.Reading.{same_bytes}
use Rattle.machine.proofs.laws.same_bytes.Goals as goal

pub returns : goal.returns
returns c = same_bytes
