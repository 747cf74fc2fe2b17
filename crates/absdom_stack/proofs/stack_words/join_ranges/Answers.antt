use Rattle.std.proofs.Common.{◌≢◌, ◌<◌, ◌∙◌, length, arith, length-set, get_or-set_other, get_or-set_same, below_more, rules}
use Rattle.absdom_stack.proofs.WordSteps.{joined_all}
use Rattle.absdom_stack.proofs.stack_words.join_ranges.Goals as goal

pub loop-word-preserved : goal.loop-word-preserved
loop-word-preserved c = record {
  size = length-set _ _ _ ∙ c.loop-word.invariant.size;
  ranges = below_more _ _
      (λ k h. let ne : k ≢ c.loop-word.word = omega arith in rw get_or-set_other (c.loop-word.invariant.ranges k h))
      (let lt : c.loop-word.word < length c.loop-word.a = omega (arith, c.loop-word.invariant.size) in rw get_or-set_same (search rules));
  ahead = λ k h. let ne : k ≢ c.loop-word.word = omega arith in rw get_or-set_other (c.loop-word.invariant.ahead k (omega arith));
}

pub returns-clause-joint : goal.returns-clause-joint
returns-clause-joint c =
    joined_all c.args.a.now c.args.b.now c.loop-word.a c.told-a c.told-b c.loop-word.invariant.size
    (λ k l. c.loop-word.invariant.ranges k (omega (arith, c.loop-word-test.false)))
