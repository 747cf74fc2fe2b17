use Rattle.std.proofs.Common.{◌+◌, ◌/◌, ◌≤◌, max}
use Rattle.absdom_stack.proofs.MarkMasks.{AreMarkedBelow}
use Rattle.absdom_stack.proofs.marks.Marks.are_set.Given as goal

abbrev pub invariant-loop-word : goal.invariant-loop-word
invariant-loop-word l = record {
  so_far : AreMarkedBelow l.self l.first l.end l.word;
  near : l.word ≤ max (l.first / 64) ((l.end + 63) / 64);
}
