use Rattle.std.proofs.Common.{rules}
use Rattle.absdom_stack.proofs.WordSteps.{joined_unset}
use Rattle.absdom.proofs.state.State.join.Goals as goal

pub invariant_of-self : goal.invariant_of-self
invariant_of-self c = record {
  sizes = record { registers = c.join_kinds.ensures.size; bytes = c.join.ensures.length; words = c.include.ensures.words.count };
  kinds = search rules;
  ranges = c.include.ensures.words.each;
  unset =
      joined_unset c.self.inside.marks c.other.inside.marks c.join.new.self c.self.inside.words c.other.inside.words c.include.new.self c.join.ensures.both c.include.ensures.joint c.self.invariant.ranges c.other.invariant.ranges c.self.invariant.unset c.other.invariant.unset;
}

pub returns-clause-whole : goal.returns-clause-whole
returns-clause-whole c = invariant_of-self c
