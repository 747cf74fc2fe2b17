use Rattle.std.proofs.Common.{ℕ, ◌<◌}
use Rattle.absdom_num.specs.Ranges.{IsWithin}
use Rattle.absdom_stack.specs.StackWords.{range_in}
use Rattle.absdom_stack.proofs.stack_words.StackWords.are_within.Given as goal

abbrev pub invariant-loop-word : goal.invariant-loop-word
invariant-loop-word l = (k : ℕ) → k < l.word → IsWithin (range_in l.self k) (range_in l.other k)
