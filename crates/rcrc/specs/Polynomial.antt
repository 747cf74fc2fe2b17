-- Polynomials over two elements, each the list of its coefficients, that of x^0 first, and the CRC
-- as the remainder of one of them.
use Rattle.std.specs.Prelude.{◌≡◌, ℕ, zero, suc, ◌*◌, ◌/◌, ◌%◌, ◌^◌, ◌<◌, ◌==◌, Bool, true, false, not, List, [], ◌∷◌}
use Rattle.std.specs.Prelude.{length, slice_index_or, if◌then◌else◌}

-- ---- the statement

-- the coefficient of x^k, which is 0 past the end of the list
abbrev pub coefficient : List Bool → ℕ → Bool
coefficient p k = slice_index_or p k false

-- two polynomials are one if their coefficients are the same
abbrev pub IsSame : List Bool → List Bool → Type 0
IsSame p q = (k : ℕ) → coefficient p k ≡ coefficient q k

-- the sum of two elements
abbrev pub bit_sum : Bool → Bool → Bool
bit_sum true b = not b
bit_sum false b = b

-- the sum of two polynomials
abbrev pub plus : List Bool → List Bool → List Bool
plus [] q = q
plus (c ∷ p) [] = c ∷ p
plus (c ∷ p) (d ∷ q) = bit_sum c d ∷ plus p q

-- a polynomial times x^n
abbrev pub times_power : ℕ → List Bool → List Bool
times_power zero p = p
times_power (suc n) p = false ∷ times_power n p

-- the product of two polynomials
abbrev pub times : List Bool → List Bool → List Bool
times [] q = []
times (c ∷ p) q = plus (if c then q else []) (false ∷ times p q)

-- x^8 + x^2 + x + 1 (ECSS-E-ST-50-52C, 8-bit CRC)
abbrev pub generator : List Bool
generator = true ∷ true ∷ true ∷ false ∷ false ∷ false ∷ false ∷ false ∷ true ∷ []

-- some polynomial times the generator is p
pub record IsMultiple (p : List Bool) : Type 0 where
  pub quotient : List Bool
  pub product : IsSame p (times quotient generator)

-- bit k of a byte
abbrev pub bit_of : ℕ → ℕ → Bool
bit_of byte k = byte / 2 ^ k % 2 == 1

-- the polynomial of a byte: bit 0 is the coefficient of x^7 (ECSS-E-ST-50-52C, 8-bit CRC)
abbrev pub of_byte : ℕ → List Bool
of_byte byte =
    bit_of byte 7 ∷ bit_of byte 6 ∷ bit_of byte 5 ∷ bit_of byte 4 ∷ bit_of byte 3 ∷ bit_of byte 2 ∷ bit_of byte 1
    ∷ bit_of byte 0 ∷ []

-- the polynomial of some bytes: the lowest bit of the first byte is the highest coefficient
-- (ECSS-E-ST-50-52C, 8-bit CRC)
abbrev pub of_bytes : List ℕ → List Bool
of_bytes [] = []
of_bytes (byte ∷ bytes) = plus (times_power (8 * length bytes) (of_byte byte)) (of_bytes bytes)

-- the byte r is the remainder of the bytes times x^8 by the generator: their sum is a multiple of it
-- (ECSS-E-ST-50-52C, 8-bit CRC)
pub record IsRemainder (bytes : List ℕ) (r : ℕ) : Type 0 where
  pub is_byte : r < 256
  pub divides : IsMultiple (plus (times_power 8 (of_bytes bytes)) (of_byte r))

-- ---- what else contracts and proofs say

-- no bytes have two remainders
abbrev pub RemainderIsUnique : Type 0
RemainderIsUnique = (bytes : List ℕ) (r s : ℕ) → IsRemainder bytes r → IsRemainder bytes s → r ≡ s
