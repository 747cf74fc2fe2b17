use Rattle.machine.proofs.Fitting.{numbers_fit, verdicts_fit}
use Rattle.machine.proofs.laws.numbers_fit.Goals as goal

pub returns-clause-numbers : goal.returns-clause-numbers
returns-clause-numbers c = numbers_fit

pub returns-clause-verdicts : goal.returns-clause-verdicts
returns-clause-verdicts c = verdicts_fit
