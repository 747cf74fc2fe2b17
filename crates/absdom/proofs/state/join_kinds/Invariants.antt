use Rattle.std.proofs.Common.{◌≡◌, ℕ, ◌<◌, ◌≤◌, length}
use Rattle.absdom.specs.Kinds.{joined_kinds}
use Rattle.absdom.specs.State.{kind_in}
use Rattle.absdom.proofs.state.join_kinds.Given as goal

abbrev pub invariant-loop-register : goal.invariant-loop-register
invariant-loop-register l = record {
  size : length l.a ≡ 11;
  kinds : (k : ℕ) → k < l.register → kind_in l.a k ≡ joined_kinds (kind_in l.initial.a k) (kind_in l.b k);
  ahead : (k : ℕ) → l.register ≤ k → kind_in l.a k ≡ kind_in l.initial.a k;
}
