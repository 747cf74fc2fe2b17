use Rattle.std.proofs.Common.{◌≡◌, ℕ, ◌<◌, ◌≤◌, length}
use Rattle.absdom_num.specs.Ranges.{joined_ranges}
use Rattle.absdom_stack.specs.StackWords.{range_in}
use Rattle.absdom_stack.proofs.stack_words.join_ranges.Given as goal

abbrev pub invariant-loop-word : goal.invariant-loop-word
invariant-loop-word l = record {
  size : length l.a ≡ 64;
  ranges : (k : ℕ) → k < l.word → range_in l.a k ≡ joined_ranges (range_in l.initial.a k) (range_in l.b k);
  ahead : (k : ℕ) → l.word ≤ k → range_in l.a k ≡ range_in l.initial.a k;
}
