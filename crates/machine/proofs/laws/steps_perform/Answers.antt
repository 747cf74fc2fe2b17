use Rattle.machine.proofs.Leaving.{step_performs}
use Rattle.machine.proofs.laws.steps_perform.Goals as goal

pub returns : goal.returns
returns c = step_performs
