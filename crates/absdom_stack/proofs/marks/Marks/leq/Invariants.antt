use Rattle.std.proofs.Common.{◌*◌, ◌<◌, ◌≡◌, ℕ, true}
use Rattle.absdom_stack.specs.Marks.{mark_at}
use Rattle.absdom_stack.proofs.marks.Marks.leq.Given as goal

abbrev pub invariant-loop-word : goal.invariant-loop-word
invariant-loop-word l = (p : ℕ) → p < 64 * l.word → mark_at l.other p ≡ true → mark_at l.self p ≡ true
