-- Shifts of words in twice their bits lose nothing.
use Rattle.std.proofs.Common.{ℕ, ◌≡◌, ◌*◌, ◌%◌, ◌^◌, ◌<◌, ◌≤◌, arith}
use Rattle.std.proofs.lemmas.Nat.{shl_whole}
use Rattle.std.proofs.Math.Nat.{mul-le-mul_right}

pub shifted : (x d : ℕ) → x < 2 ^ 64 → d < 64 → x * 2 ^ d % 2 ^ 128 ≡ x * 2 ^ d
shifted x d p q = shl_whole x 64 d 128 p (omega arith)

pub shifted_ends : (x y d : ℕ) → x ≤ y → y < 2 ^ 64 → d < 64 → x * 2 ^ d % 2 ^ 128 ≤ y * 2 ^ d % 2 ^ 128
shifted_ends x y d h p q =
    let e : x * 2 ^ d ≤ y * 2 ^ d = mul-le-mul_right (2 ^ d) h in
    omega (arith, shifted x d (omega arith) q, shifted y d p q)
