use Rattle.std.proofs.Common.{◌≡◌, ℕ, ◌<◌, ◌≤◌, get_or}
use Rattle.std.specs.Int.Bits.{bit_and}
use Rattle.absdom_stack.specs.Bits.{AreEightWords}
use Rattle.absdom_stack.proofs.marks.Marks.join.Given as goal

abbrev pub invariant-loop-k : goal.invariant-loop-k
invariant-loop-k l = record {
  size : AreEightWords l.self-inside.words;
  both : (p : ℕ) → p < l.k → get_or l.self-inside.words p 0 ≡ bit_and (get_or l.initial.self-inside.words p 0) (get_or l.other-inside.words p 0);
  ahead : (p : ℕ) → l.k ≤ p → get_or l.self-inside.words p 0 ≡ get_or l.initial.self-inside.words p 0;
}
