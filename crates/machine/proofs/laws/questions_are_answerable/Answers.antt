use Rattle.machine.proofs.Asking.{questions_are_answerable}
use Rattle.machine.proofs.laws.questions_are_answerable.Goals as goal

pub returns : goal.returns
returns c = questions_are_answerable
