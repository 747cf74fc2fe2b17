use Rattle.machine.proofs.Asking.{instructions_ask, steps_ask, arguments_fit}
use Rattle.machine.proofs.laws.steps_ask.Goals as goal

pub returns-clause-instructions : goal.returns-clause-instructions
returns-clause-instructions c = instructions_ask

pub returns-clause-steps : goal.returns-clause-steps
returns-clause-steps c = steps_ask

pub returns-clause-arguments : goal.returns-clause-arguments
returns-clause-arguments c = arguments_fit
