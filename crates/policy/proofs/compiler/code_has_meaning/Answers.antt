use Rattle.policy.proofs.Compiling.{has_meaning}
use Rattle.policy.proofs.compiler.code_has_meaning.Goals as goal

pub returns : goal.returns
returns c = has_meaning c.steps_perform.ensures c.runs_from_the_front.ensures.front c.runs_from_the_front.ensures.answers c.decisions.ensures.answered
