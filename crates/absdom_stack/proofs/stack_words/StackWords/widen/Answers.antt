use Rattle.absdom_stack.proofs.WordSteps.{widened_words}
use Rattle.absdom_stack.proofs.stack_words.StackWords.widen.Goals as goal

pub invariant_of-self : goal.invariant_of-self
invariant_of-self c = rw c.widen.ensures (widened_words c.self.inside.ranges c.args.first c.args.last c.self.invariant)
