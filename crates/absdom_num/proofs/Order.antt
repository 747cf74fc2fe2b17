-- Containment is an order with joins.
use Rattle.std.proofs.Common.{◌≡◌, ◌≤◌, ap₂, arith}
use Rattle.absdom_num.specs.declared.ranges.Range.{Range}
use Rattle.absdom_num.specs.Ranges.{IsWithin}
use Rattle.absdom_num.specs.Laws.{IsOrder, IsSound, IsJoin}

pub within_same : (a : Range) → IsWithin a a
within_same a = record { above = omega arith; below = omega arith }

pub within_trans : (a b c : Range) → IsWithin a b → IsWithin b c → IsWithin a c
within_trans a b c p q = record { above = omega arith; below = omega arith }

same_ends : (a b : Range) → a.0 ≡ b.0 → a.1 ≡ b.1 → a ≡ b
same_ends a b e f = ap₂ (λ x y. let r : Range = (x, y) in r) e f

pub within_both : (a b : Range) → IsWithin a b → IsWithin b a → a ≡ b
within_both a b p q = same_ends a b (omega arith) (omega arith)

-- a range that holds a word and lies within one number is that number
pub only_within : (a b : Range) → a.0 ≤ a.1 → b.0 ≡ b.1 → IsWithin a b → a ≡ b
only_within a b h s p = same_ends a b (omega arith) (omega arith)

pub is_order : IsOrder
is_order = (within_same, within_trans, within_both)

pub is_sound : IsSound
is_sound a b n p q = record { above = omega arith; below = omega arith; word = q.word }

pub is_join : IsJoin
is_join a b c = (
  record { above = omega arith; below = omega arith },
  record { above = omega arith; below = omega arith },
  λ p q. record { above = omega arith; below = omega arith },
)
