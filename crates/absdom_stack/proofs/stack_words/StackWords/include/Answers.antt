use Rattle.std.proofs.Common.{subst, List}
use Rattle.absdom_num.specs.declared.ranges.Range.{Range}
use Rattle.absdom_stack.specs.StackWords.{AreStackWords}
use Rattle.absdom_stack.proofs.WordSteps.{all_words, view_words, joined_off, joined_kept}
use Rattle.absdom_stack.proofs.stack_words.StackWords.include.Goals as goal

pub invariant_of-self : goal.invariant_of-self
invariant_of-self c = c.self.invariant

pub returns-then-not-other-clause-joint : goal.returns-then-not-other-clause-joint
returns-then-not-other-clause-joint c =
    joined_off c.self.inside.narrow c.other.inside.narrow c.self.inside.ranges c.other.inside.ranges c.args.self.now c.args.other.now c.self.view_is c.other.view_is c.self.invariant c.if-not-other.true

pub returns-then-not-other-clause-words : goal.returns-then-not-other-clause-words
returns-then-not-other-clause-words c = all_words

pub returns-else-self-clause-joint : goal.returns-else-self-clause-joint
returns-else-self-clause-joint c =
    joined_kept c.self.inside.narrow c.other.inside.narrow c.self.inside.ranges c.other.inside.ranges c.args.self.now c.args.other.now c.self.view_is c.other.view_is c.other.invariant c.if-self.false

pub returns-else-self-clause-words : goal.returns-else-self-clause-words
returns-else-self-clause-words c =
    subst (λ (ranges : List Range). AreStackWords ranges) c.self.view_is (view_words c.self.inside.narrow c.self.inside.ranges c.self.invariant)
