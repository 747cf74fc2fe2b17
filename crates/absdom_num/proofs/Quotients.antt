-- Quotients of larger numbers by smaller ones are larger.
use Rattle.std.proofs.Common.{ℕ, ◌*◌, ◌/◌, ◌^◌, ◌<◌, ◌≤◌, arith}
use Rattle.std.proofs.lemmas.Nat.{le-div, pow_pos}
use Rattle.std.proofs.Math.Nat.{mul-le-mul_left, div-mul-le_self}

pub quotient_grows : (x y c d : ℕ) → x ≤ y → 0 < c → c ≤ d → x / d ≤ y / c
quotient_grows x y c d h p q =
    let e : x / d * c ≤ x / d * d = mul-le-mul_left (x / d) q in
    le-div (x / d) y c p (omega (arith, div-mul-le_self x d))

pub shift_grows : (x y k : ℕ) → x ≤ y → x / 2 ^ k ≤ y / 2 ^ k
shift_grows x y k h = quotient_grows x y (2 ^ k) (2 ^ k) h (pow_pos k) (omega arith)
