use Rattle.machine.proofs.Agreement.{halts_are_one}
use Rattle.machine.proofs.laws.halts_agree.Goals as goal

pub returns : goal.returns
returns c = halts_are_one
