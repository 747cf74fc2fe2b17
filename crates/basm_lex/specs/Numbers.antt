-- What words write: numbers, and distances with a sign.
use Rattle.std.specs.Prelude.{◌≡◌, ℕ, ◌<◌, ◌≤◌, ◌^◌, ◌⊎◌, ℤ, pos, neg_ℤ, true, cond, List, ◌∷◌, ◌++◌, length, drop}
use Rattle.std.specs.Prelude.{codes, FitsSigned}
use Rattle.std.specs.Int.{w32, w64, cast_signed, cast_unsigned}
use Rattle.std.specs.Str.Parse.{IsNumeral, digits_value, starts_with_minus}

-- ---- the statement

-- decimal digits after an optional minus
abbrev pub IsDecimal : List ℕ → Type 0
IsDecimal word = IsNumeral 10 (cond (starts_with_minus word) (drop 1 word) word)

-- the number that they write
abbrev pub decimal_value : List ℕ → ℤ
decimal_value word =
    cond (starts_with_minus word) (neg_ℤ (pos (digits_value 10 (drop 1 word)))) (pos (digits_value 10 word))

-- the word is a decimal, and writes this number
abbrev pub WritesDecimal : List ℕ → ℤ → Type 0
WritesDecimal word value = IsDecimal word × (value ≡ decimal_value word)

-- at most `most` hexadecimal digits, in either case
abbrev pub IsHexadecimal : ℕ → List ℕ → Type 0
IsHexadecimal most digits = IsNumeral 16 digits × (length digits ≤ most)

-- `0x` and at most `most` hexadecimal digits, and the number that they write
pub record WritesBits (most : ℕ) (word : List ℕ) (bits : ℕ) : Type 0 where
  pub digits : List ℕ
  pub prefix : word ≡ codes "0x" ++ digits
  pub hexadecimal : IsHexadecimal most digits
  pub written : bits ≡ digits_value 16 digits

-- `0x` and at most eight hexadecimal digits, which are the bits of a signed number of 32 bits
pub record WritesPattern (word : List ℕ) (value : ℤ) : Type 0 where
  pub bits : ℕ
  pub written : WritesBits 8 word bits
  pub signed : value ≡ cast_signed w32 bits

-- a number of 32 bits: a decimal, or its bits
abbrev pub WritesNumber : List ℕ → ℤ → Type 0
WritesNumber word value = (WritesDecimal word value × FitsSigned w32 value) ⊎ WritesPattern word value

-- a decimal of 64 bits below zero, as its two's complement
pub record WritesBelowZero (word : List ℕ) (value : ℕ) : Type 0 where
  pub signed : ℤ
  pub minus : starts_with_minus word ≡ true
  pub decimal : WritesDecimal word signed
  pub fits : FitsSigned w64 signed
  pub bits : value ≡ cast_unsigned w64 signed

-- a number of 64 bits: a decimal, below zero as its two's complement, or its bits
abbrev pub WritesWide : List ℕ → ℕ → Type 0
WritesWide word value =
    (IsNumeral 10 word × (value ≡ digits_value 10 word) × (value < 2 ^ 64))
    ⊎ (WritesBelowZero word value ⊎ WritesBits 16 word value)

-- a distance without its sign: digits, or the bits of a number of 32 bits
abbrev pub WritesMagnitude : List ℕ → ℤ → Type 0
WritesMagnitude word value = (IsNumeral 10 word × (value ≡ pos (digits_value 10 word))) ⊎ WritesPattern word value

-- a plus, and a distance without its sign
pub record WritesForward (word : List ℕ) (value : ℤ) : Type 0 where
  pub digits : List ℕ
  pub signed : word ≡ 43 ∷ digits
  pub magnitude : WritesMagnitude digits value

-- a minus, and a distance back without its sign
pub record WritesBackward (word : List ℕ) (value : ℤ) : Type 0 where
  pub digits : List ℕ
  pub forward : ℤ
  pub signed : word ≡ 45 ∷ digits
  pub magnitude : WritesMagnitude digits forward
  pub negated : value ≡ neg_ℤ forward

-- a distance: a sign, and a distance without it
abbrev pub WritesDistance : List ℕ → ℤ → Type 0
WritesDistance word value = WritesForward word value ⊎ WritesBackward word value

-- ---- what else contracts and proofs say

-- a decimal of 32 bits
abbrev pub IsShortDecimal : List ℕ → Type 0
IsShortDecimal word = IsDecimal word × FitsSigned w32 (decimal_value word)

-- decimal digits of a number below the limit
abbrev pub IsNumeralBelow : (limit : ℕ) → List ℕ → Type 0
IsNumeralBelow limit digits = IsNumeral 10 digits × (digits_value 10 digits < limit)

-- the number of 32 bits whose bits the hexadecimal digits write
abbrev pub pattern_value : List ℕ → ℤ
pattern_value digits = cast_signed w32 (digits_value 16 digits)

-- a number of 64 bits that is written as a decimal
abbrev pub WritesWideDecimal : List ℕ → ℕ → Type 0
WritesWideDecimal word value =
    (IsNumeral 10 word × (value ≡ digits_value 10 word) × (value < 2 ^ 64)) ⊎ WritesBelowZero word value
