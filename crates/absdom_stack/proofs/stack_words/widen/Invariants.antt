use Rattle.std.proofs.Common.{◌+◌, ◌/◌, ◌≤◌, max}
use Rattle.absdom_stack.proofs.WordSteps.{AreForgotten}
use Rattle.absdom_stack.proofs.stack_words.widen.Given as goal

abbrev pub invariant-loop-word : goal.invariant-loop-word
invariant-loop-word l = record {
  so_far : AreForgotten l.initial.ranges l.ranges (l.first / 8) l.word;
  near : l.word ≤ max (l.first / 8) (l.last / 8 + 1);
}
