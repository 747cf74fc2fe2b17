-- The least 2^k - 1 that is at least a number.
use Rattle.std.proofs.Common.{ℕ, zero, suc, refl, ⊎_elim, ◌≡◌, ◌+◌, ◌-◌, ◌*◌, ◌/◌, ◌^◌, ◌<◌, ◌≤◌, arith}
use Rattle.std.specs.Int.{w64, leading_zeros}
use Rattle.std.proofs.lemmas.Nat.{leading_length, le-div, pow_pos}
use Rattle.std.proofs.lemmas.Bool.{cases_lt}
use Rattle.std.proofs.Math.Nat.{pow-suc, pow-le-pow_right}
use lib.Count.{count_leading_zeros}
use Rattle.absdom_num.specs.Tables.{ones_over}
use Rattle.absdom_num.specs.Laws.{IsLeastOnes}

-- the number of digits
pub record Digits (n k : ℕ) : Type 0 where
  pub digits : 64 - leading_zeros w64 n ≡ k
  pub most : k ≤ 64
  pub room : n < 2 ^ k
  pub needed : 2 ^ k ≤ 2 * n + 1

pub digits_of : (n : ℕ) → n < 2 ^ 64 → (k : ℕ) × Digits n k
digits_of n h =
    let l = leading_length 64 n h in
    (l.0, record { digits = omega (arith, l.1); most = omega (arith, l.1); room = l.2; needed = l.3 })

pub ones_over_above : (n : ℕ) → n < 2 ^ 64 → n ≤ ones_over n
ones_over_above n h =
    let d = digits_of n h in
    rw d.1.digits (omega (arith, d.1.room))

-- a number of more digits has no leading zero
no_zeros : (k n : ℕ) → 2 ^ k ≤ n → count_leading_zeros k n ≡ 0
unfolding count_leading_zeros
no_zeros zero n h = refl
no_zeros (suc k) zero h = absurd (omega (arith, pow_pos (suc k)))
no_zeros (suc k) (suc n) h =
    let e : 2 ^ k * 2 ≤ suc n = omega (arith, pow-suc 2 k) in
    no_zeros k (suc n / 2) (le-div (2 ^ k) (suc n) 2 (omega arith) e)

-- the place at which the ones end, and that every word up to n ends there too
pub record Ones (n k : ℕ) : Type 0 where
  pub ones : ones_over n ≡ 2 ^ k - 1
  pub room : (i : ℕ) → i ≤ n → i < 2 ^ 64 → i < 2 ^ k

pub ones_of : (n : ℕ) → (k : ℕ) × Ones n k
ones_of n =
    ⊎_elim
    (λ h. let d = digits_of n h in
    (d.0, record { ones = rw d.1.digits; room = λ i p q. omega (arith, d.1.room) }))
    (λ h. (64, record { ones = rw (no_zeros 64 n h); room = λ i p q. q }))
    (cases_lt n (2 ^ 64))

-- no fewer ones hold n
pub ones_least : (n k : ℕ) → n < 2 ^ 64 → n < 2 ^ k → ones_over n ≤ 2 ^ k - 1
ones_least n k p q =
    let d = digits_of n p in
    let e : 2 ^ d.0 < 2 ^ suc k = omega (arith, d.1.needed, pow-suc 2 k) in
    let f : d.0 ≤ k =
    ⊎_elim
    (λ h. let g : 2 ^ suc k ≤ 2 ^ d.0 = pow-le-pow_right (omega arith) (omega arith) in absurd (omega arith))
    (λ h. h)
    (cases_lt k d.0) in
    let g : 2 ^ d.0 ≤ 2 ^ k = pow-le-pow_right (omega arith) f in
    rw d.1.digits (omega arith)

pub is_least_ones : IsLeastOnes
is_least_ones n h =
    let o = ones_of n in
    ((o.0, o.1.ones), ones_over_above n h, λ k p. ones_least n k h (omega (arith, pow_pos k)))
