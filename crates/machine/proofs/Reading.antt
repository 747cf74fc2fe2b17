-- Bytes that were written are read again.
use Rattle.std.proofs.Common.{lit<, ◌≡◌, ℕ, zero, suc, ◌+◌, ◌-◌, ◌*◌, ◌/◌, ◌%◌, ◌^◌, ◌<◌, refl, sym, ap, ap₂, ◌∙◌, subst, arith, Option, Some}
use Rattle.std.proofs.Math.Nat.{pow-suc, pow-succ', div-div-eq-div-mul, div-one, mod-one}
use Rattle.std.proofs.Math.Arith.{mod-mul}
use Rattle.std.proofs.lemmas.Bool.Decides.{nat_tests}
use Rattle.machine.specs.Memory.{little_endian, byte_after, byte_below}
use Rattle.machine.specs.Laws.{BytesAreRead, SameBytes}

turned : (a b : ℕ) → a * 256 + b ≡ b + 256 * a
turned a b = omega arith

positive : (bytes : ℕ) → 0 < 256 ^ bytes
positive zero = lit< tt
positive (suc bytes) = let more = positive bytes in omega (arith, pow-suc 256 bytes)

-- a byte that was written is that of the number
written : (stack : ℕ → Option ℕ) (bytes start n i : ℕ) → i < bytes → byte_after stack bytes start n (start + i) ≡ Some (n / 256 ^ i % 256)
written stack bytes start n i l =
    let e : start + i - start ≡ i = omega arith in
    rw e (grind (arith, nat_tests))

-- what the bytes of a number from a place are read as
digits_read : (byte : ℕ → Option ℕ) (bytes place n : ℕ) → ((i : ℕ) → i < bytes → byte (place + i) ≡ Some (n / 256 ^ i % 256)) → little_endian byte bytes place ≡ Some (n % 256 ^ bytes)
unfolding little_endian
digits_read byte zero place n h = rw (mod-one n) refl
digits_read byte (suc bytes) place n h =
    let p : place + 0 ≡ place = omega arith in
    let d : n / 256 ^ 0 ≡ n = div-one n in
    let first : byte place ≡ Some (n % 256) = rw (p, d) at (h 0 (omega arith)) in
    let above : (i : ℕ) → i < bytes → byte (suc place + i) ≡ Some (n / 256 / 256 ^ i % 256) =
    λ i l.
    let q : place + suc i ≡ suc place + i = omega arith in
    let e : n / 256 ^ suc i ≡ n / 256 / 256 ^ i = ap (λ m. n / m) (pow-succ' 256 i) ∙ sym (div-div-eq-div-mul n 256 (256 ^ i)) in
    rw (q, e) at (h (suc i) (omega arith))
    in
    let rest : little_endian byte bytes (suc place) ≡ Some (n / 256 % 256 ^ bytes) = digits_read byte bytes (suc place) (n / 256) above in
    let some : 0 < 256 ^ bytes = positive bytes in
    let whole : n % 256 ^ suc bytes ≡ n % 256 + 256 * (n / 256 % 256 ^ bytes) =
    ap (λ m. n % m) (pow-suc 256 bytes) ∙ mod-mul n some (lit< tt) ∙ turned (n / 256 % 256 ^ bytes) (n % 256)
    in
    rw (first, rest, whole) refl

pub bytes_are_read : BytesAreRead
bytes_are_read stack bytes start n =
    digits_read (byte_after stack bytes start n) bytes start n (λ i l. written stack bytes start n i l)

pub same_bytes : SameBytes
unfolding little_endian
same_bytes one other zero start same = refl
same_bytes one other (suc bytes) start same =
    let at : start + 0 ≡ start = omega arith in
    let first : one start ≡ other start = subst (λ (p : ℕ). one p ≡ other p) at (same 0 (omega arith)) in
    ap₂ byte_below first (same_bytes one other bytes (suc start)
    (λ k below. let on : start + suc k ≡ suc start + k = omega arith in subst (λ (p : ℕ). one p ≡ other p) on (same (suc k) (omega arith))))
