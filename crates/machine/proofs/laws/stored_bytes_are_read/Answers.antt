use Rattle.machine.proofs.Reading.{bytes_are_read}
use Rattle.machine.proofs.laws.stored_bytes_are_read.Goals as goal

pub returns : goal.returns
returns c = bytes_are_read
