use Rattle.initiator.proofs.LoadsTaken.{packets_are_taken}
use Rattle.initiator.proofs.laws.load_packets_are_taken.Goals as goal

pub returns : goal.returns
returns c = packets_are_taken
