-- Numbers of several bytes, the lowest byte first.
use Rattle.std.proofs.Common.{lit<, ◌≡◌, ℕ, zero, suc, ◌+◌, ◌-◌, ◌*◌, ◌^◌, ◌<◌, ◌≤◌, refl, arith, Option, Some, None}
use Rattle.std.proofs.Math.Nat.{pow-suc, pow-le-pow_right}
use Rattle.machine.specs.Memory.{little_endian, byte_below}

pub little_none : (byte : ℕ → Option ℕ) (bytes place : ℕ) → bytes ≡ 0 → little_endian byte bytes place ≡ Some 0
unfolding little_endian
little_none byte zero place e = refl
little_none byte (suc bytes) place e = absurd (omega arith)

pub little_more : (byte : ℕ → Option ℕ) (bytes place : ℕ) → 0 < bytes → little_endian byte bytes place ≡ byte_below (byte place) (little_endian byte (bytes - 1) (place + 1))
unfolding little_endian
little_more byte zero place h = absurd (omega arith)
little_more byte (suc bytes) place h =
    let e : suc bytes - 1 ≡ bytes = omega arith in
    let f : place + 1 ≡ suc place = omega arith in
    rw (e, f) refl

pub little_unset : (byte : ℕ → Option ℕ) (bytes place : ℕ) → 0 < bytes → byte place ≡ None → little_endian byte bytes place ≡ None
little_unset byte bytes place h e = rw (little_more byte bytes place h, e) refl

below_none : (byte : Option ℕ) → byte_below byte None ≡ None
below_none None = refl
below_none (Some b) = refl

pub little_unset_above : (byte : ℕ → Option ℕ) (bytes place : ℕ) → 0 < bytes → little_endian byte (bytes - 1) (place + 1) ≡ None → little_endian byte bytes place ≡ None
little_unset_above byte bytes place h e = rw (little_more byte bytes place h, e) (below_none (byte place))

pub little_set : (byte : ℕ → Option ℕ) (bytes place b rest : ℕ) → 0 < bytes → byte place ≡ Some b → little_endian byte (bytes - 1) (place + 1) ≡ Some rest → little_endian byte bytes place ≡ Some (b + 256 * rest)
little_set byte bytes place b rest h e f = rw (little_more byte bytes place h, e, f) refl

pub byte_above : (bytes b rest : ℕ) → 0 < bytes → b < 256 → rest < 256 ^ (bytes - 1) → b + 256 * rest < 256 ^ bytes
byte_above zero b rest positive h k = absurd (omega arith)
byte_above (suc bytes) b rest positive h k =
    let e : suc bytes - 1 ≡ bytes = omega arith in
    let k2 = rw e at k in
    omega (arith, pow-suc 256 bytes)

pub rest_small : (bytes rest : ℕ) → bytes ≤ 8 → rest < 256 ^ (bytes - 1) → rest < 256 ^ 7
rest_small bytes rest few h =
    let j : bytes - 1 ≤ 7 = omega arith in
    let p : 0 < 256 = lit< tt in
    let q : 256 ^ (bytes - 1) ≤ 256 ^ 7 = pow-le-pow_right p j in
    omega arith
