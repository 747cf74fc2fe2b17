use Rattle.machine.proofs.Leaving.{instructions_leave, steps_leave}
use Rattle.machine.proofs.laws.steps_leave.Goals as goal

pub returns-clause-instructions : goal.returns-clause-instructions
returns-clause-instructions c = instructions_leave

pub returns-clause-steps : goal.returns-clause-steps
returns-clause-steps c = steps_leave
