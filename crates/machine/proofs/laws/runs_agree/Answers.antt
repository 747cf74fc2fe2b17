use Rattle.machine.proofs.Agreement.{runs_are_one}
use Rattle.machine.proofs.laws.runs_agree.Goals as goal

pub returns : goal.returns
returns c = runs_are_one
