-- The offsets that a pointer may have: the least and the greatest (a choice of this project).
use Rattle.std.specs.Prelude.{ℤ, pos, negsuc, ◌≤ℤ◌, Bool, ◌&&◌, int_le, if◌then◌else◌, Option, Some, None}
use Rattle.std.specs.Int.{int_min, int_max}

-- ---- the statement

-- whether a pointer may have this offset into its region
abbrev pub is_offset : ℤ → Bool
is_offset z = int_le (negsuc 65535) z && int_le z (pos 65536)

-- both ends, if they are within the limits
abbrev pub offsets_within : ℤ → ℤ → Option (ℤ × ℤ)
offsets_within low high = if is_offset low && is_offset high then Some (low, high) else None

-- the first offsets are among the second
pub record AreAmong (a b : ℤ × ℤ) : Type 0 where
  pub above : b.0 ≤ℤ a.0
  pub below : a.1 ≤ℤ b.1

-- ---- what else contracts and proofs say

-- an offset lies within -65,536 to 65,536
pub record IsOffset (z : ℤ) : Type 0 where
  pub above : negsuc 65535 ≤ℤ z
  pub below : z ≤ℤ pos 65536

-- a least and a greatest offset
pub record AreOffsets (low high : ℤ) : Type 0 where
  pub least : IsOffset low
  pub greatest : IsOffset high
  pub in_order : low ≤ℤ high

-- the smallest offsets that hold both
abbrev pub joined_offsets : ℤ × ℤ → ℤ × ℤ → ℤ × ℤ
joined_offsets a b = (int_min a.0 b.0, int_max a.1 b.1)
