-- Sets of bytes as the bits of two halves.
use Rattle.std.specs.Prelude.{◌≡◌, ◌<◌, ◌%◌, ◌==◌, ◌&&◌, ℕ, Bool, false, true, nat_lt, if◌then◌else◌}
use Rattle.std.specs.Int.{bit_at}
use Rattle.regions.specs.declared.byte_sets.ByteSet.{ByteSet}

-- whether a bit of a half is set
abbrev pub has_bit : (half i : ℕ) → Bool
has_bit half i = bit_at half i == 1

-- a bit of a half is set, and none below it
pub record IsLowest (half i : ℕ) : Type 0 where
  pub inside : i < 128
  pub set : has_bit half i ≡ true
  pub below : (j : ℕ) → j < i → has_bit half j ≡ false

-- the half that has the bit of a byte
abbrev pub half_of : (low high : ℕ) → (byte : ℕ) → ℕ
half_of low high byte = if nat_lt byte 128 then low else high

-- whether a byte is one of a set
abbrev pub has_byte : ByteSet → ℕ → Bool
has_byte set byte = has_bit (half_of set.low set.high byte) (byte % 128)

-- a byte is one of a set, and none below it is
pub record IsLeastByte (set : ByteSet) (byte : ℕ) : Type 0 where
  pub has : has_byte set byte ≡ true
  pub below : (other : ℕ) → other < byte → has_byte set other ≡ false

-- whether two sets have the same bytes
abbrev pub are_same_bytes : (one other : ByteSet) → Bool
are_same_bytes one other = one.low == other.low && one.high == other.high

-- no byte is in both sets
abbrev pub HaveNoByte : (one other : ByteSet) → Type 0
HaveNoByte one other = (byte : ℕ) → byte < 256 → has_byte one byte ≡ true → has_byte other byte ≡ true → ⊥

-- each byte that is in a set is in another
abbrev pub HasEachByte : (one other : ByteSet) → Type 0
HasEachByte one other = (byte : ℕ) → byte < 256 → has_byte one byte ≡ true → has_byte other byte ≡ true
