use Rattle.std.proofs.Common.{ℕ, ◌<◌}
use Rattle.absdom.specs.Kinds.{IsKindBelow}
use Rattle.absdom.specs.State.{kind_in}
use Rattle.absdom.proofs.state.are_below.Given as goal

abbrev pub invariant-loop-register : goal.invariant-loop-register
invariant-loop-register l = (k : ℕ) → k < l.register → IsKindBelow (kind_in l.a k) (kind_in l.b k)
