use Rattle.std.proofs.Common.{◌/◌, arith}
use Rattle.absdom_stack.proofs.WordSteps.{forgotten-none, forgotten-more, forgotten-all}
use Rattle.absdom_stack.proofs.stack_words.widen.Goals as goal

pub loop-word-init : goal.loop-word-init
loop-word-init c = record { so_far = forgotten-none _ _; near = omega arith }

pub loop-word-preserved : goal.loop-word-preserved
loop-word-preserved c = record {
  so_far =
      rw c.whole.ensures
      (forgotten-more c.args.ranges.now c.loop-word.ranges (c.args.first / 8) c.loop-word.word c.loop-word.auto.word c.loop-word.invariant.so_far);
  near = omega arith;
}

pub returns : goal.returns
returns c =
    forgotten-all c.args.ranges.now c.loop-word.ranges c.args.first c.args.last c.loop-word.word c.loop-word.auto.word c.loop-word-test.false c.loop-word.invariant.near c.loop-word.invariant.so_far
