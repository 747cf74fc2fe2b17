-- Sets as the bits of a number, the lowest bit for 0.
use Rattle.std.specs.Prelude.{◌≡◌, ◌<◌, ◌==◌, ◌||◌, ℕ, zero, suc, max, Bool}
use Rattle.std.specs.Int.{bit_at}
use Rattle.std.specs.Int.Bits.{bit_or}
use Rattle.std.proofs.Common.{refl, ap, ◌∙◌, arith}
use Rattle.std.proofs.lemmas.Nat.Bits.{bit_at-lt, bit_at_or}

-- whether the bit of a number is set
abbrev pub is_bit : (word i : ℕ) → Bool
is_bit word i = bit_at word i == 1

greatest_bit : (x y : ℕ) → x < 2 → y < 2 → (max x y == 1) ≡ ((x == 1) || (y == 1))
greatest_bit zero zero h g = refl
greatest_bit zero (suc zero) h g = refl
greatest_bit (suc zero) zero h g = refl
greatest_bit (suc zero) (suc zero) h g = refl
greatest_bit (suc (suc x)) y h g = absurd (omega arith)
greatest_bit zero (suc (suc y)) h g = absurd (omega arith)
greatest_bit (suc zero) (suc (suc y)) h g = absurd (omega arith)

-- a bit is set in the `or` of two numbers if it is set in one of them
pub bit_of_either : (a b i : ℕ) → is_bit (bit_or a b) i ≡ (is_bit a i || is_bit b i)
bit_of_either a b i =
    ap (λ x. x == 1) (bit_at_or a b i)
    ∙ greatest_bit (bit_at a i) (bit_at b i) (bit_at-lt a i) (bit_at-lt b i)
