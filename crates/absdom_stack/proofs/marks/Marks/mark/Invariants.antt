use Rattle.std.proofs.Common.{◌+◌, ◌/◌, ◌≤◌, max}
use Rattle.absdom_stack.specs.Bits.{AreEightWords}
use Rattle.absdom_stack.proofs.MarkMasks.{AreMarkedTo}
use Rattle.absdom_stack.proofs.marks.Marks.mark.Given as goal

abbrev pub invariant-loop-word : goal.invariant-loop-word
invariant-loop-word l = record {
  size : AreEightWords l.self-inside.words;
  so_far : AreMarkedTo l.initial.self-inside.words l.self-inside.words l.first l.end l.word;
  near : l.word ≤ max (l.first / 64) ((l.end + 63) / 64);
}
