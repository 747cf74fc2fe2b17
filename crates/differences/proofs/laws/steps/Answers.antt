use Rattle.differences.proofs.Stepping.{steps_are_numbered, steps_decide}
use Rattle.differences.proofs.laws.steps.Goals as goal

pub returns-clause-numbered : goal.returns-clause-numbered
returns-clause-numbered c = steps_are_numbered

pub returns-clause-decide : goal.returns-clause-decide
returns-clause-decide c = steps_decide
