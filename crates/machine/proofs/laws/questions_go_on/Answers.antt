use Rattle.machine.proofs.Leaving.{instructions_go_on, questions_go_on}
use Rattle.machine.proofs.laws.questions_go_on.Goals as goal

pub returns-clause-instructions : goal.returns-clause-instructions
returns-clause-instructions c = instructions_go_on

pub returns-clause-steps : goal.returns-clause-steps
returns-clause-steps c = questions_go_on
