-- Sets of bytes, a bit for each.
use Rattle.std.proofs.Common.{◌≡◌, ◌<◌, ◌≤◌, ◌+◌, ◌-◌, ◌%◌, ◌^◌, ◌==◌, ◌&&◌, ◌||◌, ℕ, zero, suc, max, min, Bool, true, false, not, refl, ap, sym, ◌∙◌, arith, bit_and}
use Rattle.std.specs.Prelude.{nat_lt, if◌then◌else◌}
use Rattle.std.specs.Int.{bit_at, bit_not, w128}
use Rattle.std.specs.Int.Bits.{bit_or}
use Rattle.std.proofs.lemmas.Bool.Decides.{nat_tests}
use Rattle.std.proofs.lemmas.Nat.Bits.{bit_at-lt, bit_at-pow_other, bit_at-pow_same, bit_at-zero, bit_at_and, bit_at_not, bit_at_ones, bit_at_or}
use Rattle.regions.specs.ByteSets.{half_of, has_bit}

pub place_fits : (byte : ℕ) → byte % 128 < 128
place_fits byte = omega arith

pub ones : (byte : ℕ) → has_bit (half_of (2 ^ 128 - 1) (2 ^ 128 - 1) byte) (byte % 128) ≡ true
ones byte = by_half (nat_lt byte 128)
  where
    by_half : (t : Bool) → has_bit (if t then 2 ^ 128 - 1 else 2 ^ 128 - 1) (byte % 128) ≡ true
    by_half true = ap (λ x. x == 1) (bit_at_ones 128 (byte % 128) (place_fits byte))
    by_half false = ap (λ x. x == 1) (bit_at_ones 128 (byte % 128) (place_fits byte))

bit_of_both : (a b i : ℕ) → has_bit (bit_and a b) i ≡ (has_bit a i && has_bit b i)
bit_of_both a b i = ap (λ x. x == 1) (bit_at_and a b i) ∙ least (bit_at a i) (bit_at b i) (bit_at-lt a i) (bit_at-lt b i)
  where
    least : (x y : ℕ) → x < 2 → y < 2 → (min x y == 1) ≡ ((x == 1) && (y == 1))
    least zero zero h g = refl
    least zero (suc zero) h g = refl
    least zero (suc (suc y)) h g = absurd (omega arith)
    least (suc zero) zero h g = refl
    least (suc zero) (suc zero) h g = refl
    least (suc (suc x)) y h g = absurd (omega arith)
    least (suc zero) (suc (suc y)) h g = absurd (omega arith)

bit_of_not : (b i : ℕ) → b < 2 ^ 128 → i < 128 → has_bit (bit_not w128 b) i ≡ not (has_bit b i)
bit_of_not b i fits h = ap (λ x. x == 1) (bit_at_not w128 b i fits h) ∙ turned (bit_at b i) (bit_at-lt b i)
  where
    turned : (x : ℕ) → x < 2 → (1 - x == 1) ≡ not (x == 1)
    turned zero h = refl
    turned (suc zero) h = refl
    turned (suc (suc x)) h = absurd (omega arith)

pub both : (al ah bl bh byte : ℕ) → has_bit (half_of (bit_and al bl) (bit_and ah bh) byte) (byte % 128) ≡ (has_bit (half_of al ah byte) (byte % 128) && has_bit (half_of bl bh byte) (byte % 128))
both al ah bl bh byte = by_half (nat_lt byte 128)
  where
    by_half : (t : Bool) → has_bit (if t then bit_and al bl else bit_and ah bh) (byte % 128) ≡ (has_bit (if t then al else ah) (byte % 128) && has_bit (if t then bl else bh) (byte % 128))
    by_half true = bit_of_both al bl (byte % 128)
    by_half false = bit_of_both ah bh (byte % 128)

bit_of_either : (a b i : ℕ) → has_bit (bit_or a b) i ≡ (has_bit a i || has_bit b i)
bit_of_either a b i = ap (λ x. x == 1) (bit_at_or a b i) ∙ greatest (bit_at a i) (bit_at b i) (bit_at-lt a i) (bit_at-lt b i)
  where
    greatest : (x y : ℕ) → x < 2 → y < 2 → (max x y == 1) ≡ ((x == 1) || (y == 1))
    greatest zero zero h g = refl
    greatest zero (suc zero) h g = refl
    greatest zero (suc (suc y)) h g = absurd (omega arith)
    greatest (suc zero) zero h g = refl
    greatest (suc zero) (suc zero) h g = refl
    greatest (suc (suc x)) y h g = absurd (omega arith)
    greatest (suc zero) (suc (suc y)) h g = absurd (omega arith)

pub either : (al ah bl bh byte : ℕ) → has_bit (half_of (bit_or al bl) (bit_or ah bh) byte) (byte % 128) ≡ (has_bit (half_of al ah byte) (byte % 128) || has_bit (half_of bl bh byte) (byte % 128))
either al ah bl bh byte = by_half (nat_lt byte 128)
  where
    by_half : (t : Bool) → has_bit (if t then bit_or al bl else bit_or ah bh) (byte % 128) ≡ (has_bit (if t then al else ah) (byte % 128) || has_bit (if t then bl else bh) (byte % 128))
    by_half true = bit_of_either al bl (byte % 128)
    by_half false = bit_of_either ah bh (byte % 128)

pub without : (al ah bl bh byte : ℕ) → bl < 2 ^ 128 → bh < 2 ^ 128
    → has_bit (half_of (bit_and al (bit_not w128 bl)) (bit_and ah (bit_not w128 bh)) byte) (byte % 128) ≡ (has_bit (half_of al ah byte) (byte % 128) && not (has_bit (half_of bl bh byte) (byte % 128)))
without al ah bl bh byte fl fh = by_half (nat_lt byte 128)
  where
    by_half : (t : Bool) → has_bit (if t then bit_and al (bit_not w128 bl) else bit_and ah (bit_not w128 bh)) (byte % 128) ≡ (has_bit (if t then al else ah) (byte % 128) && not (has_bit (if t then bl else bh) (byte % 128)))
    by_half true = bit_of_both al (bit_not w128 bl) (byte % 128) ∙ ap (λ t. has_bit al (byte % 128) && t) (bit_of_not bl (byte % 128) fl (place_fits byte))
    by_half false = bit_of_both ah (bit_not w128 bh) (byte % 128) ∙ ap (λ t. has_bit ah (byte % 128) && t) (bit_of_not bh (byte % 128) fh (place_fits byte))

-- only the bit of a place
same_place : (k i : ℕ) → has_bit (2 ^ k) i ≡ (i == k)
same_place k i = by_test (i == k) refl
  where
    by_test : (t : Bool) → (i == k) ≡ t → has_bit (2 ^ k) i ≡ t
    by_test true e = let same : i ≡ k = grind (arith, nat_tests) in ap (λ j. has_bit (2 ^ k) j) same ∙ ap (λ x. x == 1) (bit_at-pow_same k)
    by_test false e = ap (λ x. x == 1) (bit_at-pow_other k i (λ s. apart s))
      where
        apart : i ≡ k → ⊥
        apart s = let t : (i == k) ≡ true = grind (arith, nat_tests) in absurd (cc (t, e))

no_place : (i : ℕ) → has_bit 0 i ≡ false
no_place i = ap (λ x. x == 1) (bit_at-zero i)

pub only_low : (byte other : ℕ) → byte < 128 → other < 256 → has_bit (half_of (2 ^ byte) 0 other) (other % 128) ≡ (other == byte)
only_low byte other low fits = by_half (nat_lt other 128) refl
  where
    by_half : (t : Bool) → nat_lt other 128 ≡ t → has_bit (if t then 2 ^ byte else 0) (other % 128) ≡ (other == byte)
    by_half true e = let lt : other < 128 = grind (arith, nat_tests) in let same : other % 128 ≡ other = omega arith in same_place byte (other % 128) ∙ ap (λ i. i == byte) same
    by_half false e = let ge : 128 ≤ other = grind (arith, nat_tests) in let apart : (other == byte) ≡ false = grind (arith, nat_tests) in no_place (other % 128) ∙ sym apart

pub only_high : (byte other : ℕ) → 128 ≤ byte → byte < 256 → other < 256 → has_bit (half_of 0 (2 ^ (byte - 128)) other) (other % 128) ≡ (other == byte)
only_high byte other high inside fits = by_half (nat_lt other 128) refl
  where
    by_half : (t : Bool) → nat_lt other 128 ≡ t → has_bit (if t then 0 else 2 ^ (byte - 128)) (other % 128) ≡ (other == byte)
    by_half true e = let lt : other < 128 = grind (arith, nat_tests) in let apart : (other == byte) ≡ false = grind (arith, nat_tests) in no_place (other % 128) ∙ sym apart
    by_half false e =
        let ge : 128 ≤ other = grind (arith, nat_tests) in
        let less : other % 128 ≡ other - 128 = omega arith in
        same_place (byte - 128) (other % 128) ∙ ap (λ i. i == byte - 128) less ∙ shifted
      where
        shifted : (other - 128 == byte - 128) ≡ (other == byte)
        shifted = let ge : 128 ≤ other = grind (arith, nat_tests) in grind (arith, nat_tests)

-- if the lower half has a bit, no byte below the lowest is in a set
pub below_low : (low high place : ℕ) → place < 128 → ((j : ℕ) → j < place → has_bit low j ≡ false) → (other : ℕ) → other < place → has_bit (half_of low high other) (other % 128) ≡ false
below_low low high place inside none other lt = by_half (nat_lt other 128) refl
  where
    by_half : (t : Bool) → nat_lt other 128 ≡ t → has_bit (if t then low else high) (other % 128) ≡ false
    by_half true e = let same : other % 128 ≡ other = omega arith in ap (λ i. has_bit low i) same ∙ none other lt
    by_half false e = let ge : 128 ≤ other = grind (arith, nat_tests) in absurd (omega arith)

-- if it has none, no byte below the lowest of the higher half is
pub below_high : (low high place : ℕ) → place < 128 → ((i : ℕ) → has_bit low i ≡ false) → ((j : ℕ) → j < place → has_bit high j ≡ false) → (other : ℕ) → other < place + 128 → has_bit (half_of low high other) (other % 128) ≡ false
below_high low high place inside bare none other lt = by_half (nat_lt other 128) refl
  where
    by_half : (t : Bool) → nat_lt other 128 ≡ t → has_bit (if t then low else high) (other % 128) ≡ false
    by_half true e = bare (other % 128)
    by_half false e =
        let ge : 128 ≤ other = grind (arith, nat_tests) in
        let less : other % 128 ≡ other - 128 = omega arith in
        ap (λ i. has_bit high i) less ∙ none (other - 128) (omega arith)
