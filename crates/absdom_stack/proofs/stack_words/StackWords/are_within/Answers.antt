use Rattle.std.proofs.Common.{refl, arith}
use Rattle.absdom_stack.proofs.WordSteps.{within_unknown, within_all, length-view}
use Rattle.absdom_stack.proofs.stack_words.StackWords.are_within.Goals as goal

pub returns-then-not-other : goal.returns-then-not-other
returns-then-not-other c = (
  λ t. within_unknown c.self.inside.narrow c.other.inside.narrow c.self.inside.ranges c.other.inside.ranges _ _ c.self.view_is c.other.view_is c.self.invariant c.if-not-other.true,
  λ h. refl,
)

pub returns : goal.returns
returns c = (
  λ t. within_all c.args.self.now c.args.other.now
      (length-view c.self.inside.narrow c.self.inside.ranges c.args.self.now c.self.view_is c.self.invariant)
      (length-view c.other.inside.narrow c.other.inside.ranges c.args.other.now c.other.view_is c.other.invariant)
      (λ k l. c.loop-word.invariant k (omega (arith, c.loop-word-test.false))),
  λ h. refl,
)
