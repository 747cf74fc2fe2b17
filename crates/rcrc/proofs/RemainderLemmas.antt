-- The register's last value is the remainder of the message times x^8, and the only one.
use Rattle.std.proofs.Common.{◌≡◌, ℕ, zero, suc, ◌+◌, ◌*◌, ◌%◌, ◌<◌, ◌≤◌, Bool, true, false, not, ◌&&◌, eqb, ltb, List, [], ◌∷◌, length, get_or, refl, sym, ap, ◌∙◌, ◌-◌, arith, lit<, lit≤}
use Rattle.std.specs.Prelude.{bit_xor}
use Rattle.std.specs.Bool.{beq}
use Rattle.std.specs.Int.{bit_at}
use Rattle.std.proofs.lemmas.Bool.{and_parts, agree_below_at, ltb-true}
use Rattle.std.proofs.lemmas.Nat.{xor_of_8}
use Rattle.std.proofs.lemmas.Nat.Bits.{bit_at_xor, bit_at-lt, same_from_bits_below}
use Rattle.std.proofs.Math.ListN.{get_or-eq_default}
use Rattle.rcrc.specs.Crc.{shift, shifts, crc_from}
use Rattle.rcrc.specs.Polynomial.{coefficient, IsSame, bit_sum, plus, times, times_power, generator, IsMultiple, bit_of, of_byte, of_bytes, IsRemainder, RemainderIsUnique}
use Rattle.rcrc.proofs.PolynomialLemmas.{add_assoc, add_swap, add_twice, add_self, add-false, same_from_add, coefficient-plus, coefficient-plus_by, coefficient-times_power_plus, coefficient-times_power_same, coefficient-times_power_nil, times_power-add, times_power-suc, scaled, IsMultiple-same, IsMultiple-plus, IsMultiple-times_power}

-- ---- one step of the register

-- a test that two polynomials are the same
abbrev is_same : List Bool → List Bool → Bool
is_same [] [] = true
is_same [] (d ∷ q) = not d && is_same [] q
is_same (c ∷ p) [] = not c && is_same p []
is_same (c ∷ p) (d ∷ q) = beq c d && is_same p q

beq-true : (a b : Bool) → beq a b ≡ true → a ≡ b
beq-true true true h = refl
beq-true true false h = cc
beq-true false true h = cc
beq-true false false h = refl

not-true : (a : Bool) → not a ≡ true → a ≡ false
not-true true h = cc
not-true false h = refl

IsSame-from_test : (p q : List Bool) → is_same p q ≡ true → IsSame p q
IsSame-from_test [] [] h k = refl
IsSame-from_test [] (d ∷ q) h zero = sym (not-true d (and_parts (not d) (is_same [] q) h).0)
IsSame-from_test [] (d ∷ q) h (suc k) = IsSame-from_test [] q (and_parts (not d) (is_same [] q) h).1 k
IsSame-from_test (c ∷ p) [] h zero = not-true c (and_parts (not c) (is_same p []) h).0
IsSame-from_test (c ∷ p) [] h (suc k) = IsSame-from_test p [] (and_parts (not c) (is_same p []) h).1 k
IsSame-from_test (c ∷ p) (d ∷ q) h zero = beq-true c d (and_parts (beq c d) (is_same p q) h).0
IsSame-from_test (c ∷ p) (d ∷ q) h (suc k) = IsSame-from_test p q (and_parts (beq c d) (is_same p q) h).1 k

-- the register times x, and the register after one step
abbrev step_sum : ℕ → List Bool
step_sum register = plus (false ∷ of_byte register) (of_byte (shift register))

-- their sum is the bit shifted out times the generator
IsMultiple-step_sum : (register : ℕ) → register < 256 → IsMultiple (step_sum register)
IsMultiple-step_sum register below = record {
  quotient = bit_of register 0 ∷ [];
  product = IsSame-from_test (step_sum register) (times (bit_of register 0 ∷ []) generator)
      (agree_below_at (λ r. is_same (step_sum r) (times (bit_of r 0 ∷ []) generator)) (λ _. true) 256 register refl below);
}

shift_below : (register : ℕ) → register < 256 → shift register < 256
shift_below register below =
    ltb-true (shift register) 256 (agree_below_at (λ r. ltb (shift r) 256) (λ _. true) 256 register refl below)

-- ---- several steps

-- the register times x^n, and the register after n steps
abbrev steps_sum : ℕ → ℕ → List Bool
steps_sum n register = plus (times_power n (of_byte register)) (of_byte (shifts n register))

-- two sums with a part in common
join_steps : (n register : ℕ) → IsSame (plus (times_power (suc n) (of_byte register)) (of_byte (shifts n (shift register))))
    (plus (times_power n (step_sum register)) (steps_sum n (shift register)))
join_steps n register k =
    let a = coefficient (times_power n (false ∷ of_byte register)) k in
    let b = coefficient (times_power n (of_byte (shift register))) k in
    let d = coefficient (of_byte (shifts n (shift register))) k in
    coefficient-plus_by (times_power (suc n) (of_byte register)) (of_byte (shifts n (shift register))) k a d
    (sym (ap (λ q. coefficient q k) (times_power-suc n (of_byte register)))) refl
    ∙ ap (bit_sum a) (sym (add_twice b d)) ∙ sym (add_assoc a b (bit_sum b d))
    ∙ sym (coefficient-plus_by (times_power n (step_sum register)) (steps_sum n (shift register)) k (bit_sum a b) (bit_sum b d)
    (coefficient-times_power_plus n (false ∷ of_byte register) (of_byte (shift register)) k)
    (coefficient-plus (times_power n (of_byte (shift register))) (of_byte (shifts n (shift register))) k))

pub IsMultiple-steps_sum : (n register : ℕ) → register < 256 → IsMultiple (steps_sum n register)
unfolding shifts
IsMultiple-steps_sum zero register below =
    record { quotient = []; product = λ k. coefficient-plus (of_byte register) (of_byte register) k ∙ add_self (coefficient (of_byte register) k) }
IsMultiple-steps_sum (suc n) register below =
    IsMultiple-same (plus (times_power n (step_sum register)) (steps_sum n (shift register))) (steps_sum (suc n) register)
    (join_steps n register)
    (IsMultiple-plus (times_power n (step_sum register)) (steps_sum n (shift register))
    (IsMultiple-times_power n (step_sum register) (IsMultiple-step_sum register below))
    (IsMultiple-steps_sum n (shift register) (shift_below register below)))

pub shifts_below : (n register : ℕ) → register < 256 → shifts n register < 256
unfolding shifts
shifts_below zero register below = below
shifts_below (suc n) register below = shifts_below n (shift register) (shift_below register below)

-- ---- the bits of a sum

pub bit_cases : (P : ℕ → Type 0) → P 0 → P 1 → (x : ℕ) → x < 2 → P x
bit_cases P p q zero below = p
bit_cases P p q (suc zero) below = q
bit_cases P p q (suc (suc x)) below = absurd (omega arith)

two_bits : (P : ℕ → ℕ → Type 0) → P 0 0 → P 0 1 → P 1 0 → P 1 1 → (a b i : ℕ) → P (bit_at a i) (bit_at b i)
two_bits P p q r s a b i =
    bit_cases (λ x. P x (bit_at b i)) (bit_cases (P 0) p q (bit_at b i) (bit_at-lt b i)) (bit_cases (P 1) r s (bit_at b i) (bit_at-lt b i)) (bit_at a i) (bit_at-lt a i)

bit_of-xor : (a b i : ℕ) → bit_of (bit_xor a b) i ≡ bit_sum (bit_of a i) (bit_of b i)
bit_of-xor a b i =
    ap (λ n. eqb n 1) (bit_at_xor a b i)
    ∙ two_bits (λ x y. eqb ((x + y) % 2) 1 ≡ bit_sum (eqb x 1) (eqb y 1)) refl refl refl refl a b i

coefficient-xor : (a b k : ℕ) → coefficient (of_byte (bit_xor a b)) k ≡ bit_sum (coefficient (of_byte a) k) (coefficient (of_byte b) k)
coefficient-xor a b zero = bit_of-xor a b 7
coefficient-xor a b (suc zero) = bit_of-xor a b 6
coefficient-xor a b (suc (suc zero)) = bit_of-xor a b 5
coefficient-xor a b (suc (suc (suc zero))) = bit_of-xor a b 4
coefficient-xor a b (suc (suc (suc (suc zero)))) = bit_of-xor a b 3
coefficient-xor a b (suc (suc (suc (suc (suc zero))))) = bit_of-xor a b 2
coefficient-xor a b (suc (suc (suc (suc (suc (suc zero)))))) = bit_of-xor a b 1
coefficient-xor a b (suc (suc (suc (suc (suc (suc (suc zero))))))) = bit_of-xor a b 0
coefficient-xor a b (suc (suc (suc (suc (suc (suc (suc (suc k)))))))) = refl

coefficient-times_power_xor : (n a b k : ℕ) → coefficient (times_power n (of_byte (bit_xor a b))) k ≡ bit_sum (coefficient (times_power n (of_byte a)) k) (coefficient (times_power n (of_byte b)) k)
coefficient-times_power_xor n a b k =
    coefficient-times_power_same n (of_byte (bit_xor a b)) (plus (of_byte a) (of_byte b))
    (λ j. coefficient-xor a b j ∙ sym (coefficient-plus (of_byte a) (of_byte b) j)) k
    ∙ coefficient-times_power_plus n (of_byte a) (of_byte b) k

-- ---- all bytes

-- the first register times x^8 for each byte, the bytes times x^8, and the last register
abbrev remainder_sum : ℕ → List ℕ → ℕ → List Bool
remainder_sum crc bytes last =
    plus (plus (times_power (8 * length bytes) (of_byte crc)) (times_power 8 (of_bytes bytes))) (of_byte last)

regroup : (a b s m e : Bool) → bit_sum (bit_sum a (bit_sum b m)) e ≡ bit_sum (bit_sum (bit_sum a b) s) (bit_sum (bit_sum s m) e)
regroup a b s m e = simp (add_assoc, add_twice)

-- one more byte in front
join_bytes : (crc byte : ℕ) (bytes : List ℕ) (last : ℕ) → IsSame (remainder_sum crc (byte ∷ bytes) last)
    (plus (times_power (8 * length bytes) (steps_sum 8 (bit_xor crc byte))) (remainder_sum (shifts 8 (bit_xor crc byte)) bytes last))
join_bytes crc byte bytes last k =
    let n = 8 * length bytes in
    let mixed = bit_xor crc byte in
    let next = shifts 8 mixed in
    let a = coefficient (times_power (8 + n) (of_byte crc)) k in
    let b = coefficient (times_power (8 + n) (of_byte byte)) k in
    let s = coefficient (times_power n (of_byte next)) k in
    let m = coefficient (times_power 8 (of_bytes bytes)) k in
    let e = coefficient (of_byte last) k in
    let longer : 8 * length (byte ∷ bytes) ≡ 8 + n = omega arith in
    let turned : n + 8 ≡ 8 + n = omega arith in
    let front : coefficient (times_power (8 * length (byte ∷ bytes)) (of_byte crc)) k ≡ a =
    ap (λ j. coefficient (times_power j (of_byte crc)) k) longer in
    let first : coefficient (times_power 8 (times_power n (of_byte byte))) k ≡ b =
    sym (ap (λ q. coefficient q k) (times_power-add n 8 (of_byte byte)))
    ∙ ap (λ j. coefficient (times_power j (of_byte byte)) k) turned in
    let message : coefficient (times_power 8 (of_bytes (byte ∷ bytes))) k ≡ bit_sum b m =
    coefficient-times_power_plus 8 (times_power n (of_byte byte)) (of_bytes bytes) k ∙ ap (λ z. bit_sum z m) first in
    let both : coefficient (times_power n (times_power 8 (of_byte mixed))) k ≡ bit_sum a b =
    sym (ap (λ q. coefficient q k) (times_power-add 8 n (of_byte mixed)))
    ∙ coefficient-times_power_xor (8 + n) crc byte k in
    let steps : coefficient (times_power n (steps_sum 8 mixed)) k ≡ bit_sum (bit_sum a b) s =
    coefficient-times_power_plus n (times_power 8 (of_byte mixed)) (of_byte next) k ∙ ap (λ z. bit_sum z s) both in
    coefficient-plus_by (plus (times_power (8 * length (byte ∷ bytes)) (of_byte crc)) (times_power 8 (of_bytes (byte ∷ bytes)))) (of_byte last) k
    (bit_sum a (bit_sum b m)) e
    (coefficient-plus_by (times_power (8 * length (byte ∷ bytes)) (of_byte crc)) (times_power 8 (of_bytes (byte ∷ bytes))) k a (bit_sum b m) front message)
    refl
    ∙ regroup a b s m e
    ∙ sym (coefficient-plus_by (times_power n (steps_sum 8 mixed)) (remainder_sum next bytes last) k (bit_sum (bit_sum a b) s) (bit_sum (bit_sum s m) e) steps
    (coefficient-plus_by (plus (times_power n (of_byte next)) (times_power 8 (of_bytes bytes))) (of_byte last) k (bit_sum s m) e
    (coefficient-plus (times_power n (of_byte next)) (times_power 8 (of_bytes bytes)) k) refl))

-- each element is a byte
abbrev pub AreBytes : List ℕ → Type 0
AreBytes bytes = (k : ℕ) → get_or bytes k 0 < 256

IsMultiple-remainder_sum : (crc : ℕ) (bytes : List ℕ) → crc < 256 → AreBytes bytes → IsMultiple (remainder_sum crc bytes (crc_from crc bytes))
IsMultiple-remainder_sum crc [] below fit =
    record {
      quotient = [];
      product = λ k.
          let a = coefficient (of_byte crc) k in
          coefficient-plus_by (plus (of_byte crc) (times_power 8 [])) (of_byte crc) k a a
          (coefficient-plus_by (of_byte crc) (times_power 8 []) k a false refl (coefficient-times_power_nil 8 k) ∙ add-false a) refl
          ∙ add_self a;
    }
IsMultiple-remainder_sum crc (byte ∷ bytes) below fit =
    let mixed = bit_xor crc byte in
    let fits : mixed < 256 = xor_of_8 crc byte below (fit 0) in
    let next = shifts 8 mixed in
    let last = crc_from next bytes in
    let steps = times_power (8 * length bytes) (steps_sum 8 mixed) in
    IsMultiple-same (plus steps (remainder_sum next bytes last)) (remainder_sum crc (byte ∷ bytes) last)
    (join_bytes crc byte bytes last)
    (IsMultiple-plus steps (remainder_sum next bytes last)
    (IsMultiple-times_power (8 * length bytes) (steps_sum 8 mixed) (IsMultiple-steps_sum 8 mixed fits))
    (IsMultiple-remainder_sum next bytes (shifts_below 8 mixed fits) (λ k. fit (suc k))))

crc_from_below : (crc : ℕ) (bytes : List ℕ) → crc < 256 → AreBytes bytes → crc_from crc bytes < 256
crc_from_below crc [] below fit = below
crc_from_below crc (byte ∷ bytes) below fit =
    crc_from_below (shifts 8 (bit_xor crc byte)) bytes (shifts_below 8 (bit_xor crc byte) (xor_of_8 crc byte below (fit 0))) (λ k. fit (suc k))

-- the register that starts at 0 ends as the remainder
pub IsRemainder-crc_of : (bytes : List ℕ) → AreBytes bytes → IsRemainder bytes (crc_from 0 bytes)
IsRemainder-crc_of bytes fit =
    let last = crc_from 0 bytes in
    let zeros = λ (k : ℕ).
    coefficient-times_power_same (8 * length bytes) (of_byte 0) [] (IsSame-from_test (of_byte 0) [] refl) k
    ∙ coefficient-times_power_nil (8 * length bytes) k in
    record {
      is_byte = crc_from_below 0 bytes (lit< tt) fit;
      divides = IsMultiple-same (remainder_sum 0 bytes last) (plus (times_power 8 (of_bytes bytes)) (of_byte last))
          (λ k.
          let m = coefficient (times_power 8 (of_bytes bytes)) k in
          let e = coefficient (of_byte last) k in
          coefficient-plus (times_power 8 (of_bytes bytes)) (of_byte last) k
          ∙ sym (coefficient-plus_by (plus (times_power (8 * length bytes) (of_byte 0)) (times_power 8 (of_bytes bytes))) (of_byte last) k m e
          (coefficient-plus_by (times_power (8 * length bytes) (of_byte 0)) (times_power 8 (of_bytes bytes)) k false m (zeros k) refl) refl))
          (IsMultiple-remainder_sum 0 bytes (lit< tt) fit);
    }

-- ---- there is one remainder

high_scaled : (c : Bool) (k : ℕ) → 8 ≤ k → coefficient (scaled c generator) (suc k) ≡ false
high_scaled true k high = get_or-eq_default generator false {n = suc k} (omega arith)
high_scaled false k high = refl

top_is_zero : (c x : Bool) → bit_sum (coefficient (scaled c generator) 8) x ≡ false → x ≡ false → c ≡ false
top_is_zero true true h e = cc
top_is_zero true false h e = cc
top_is_zero false x h e = refl

product_is_zero : (c : Bool) (q : List Bool) → c ≡ false → ((k : ℕ) → coefficient (times q generator) k ≡ false) → (k : ℕ) → coefficient (times (c ∷ q) generator) k ≡ false
product_is_zero true q e rest k = cc
product_is_zero false q e rest zero = refl
product_is_zero false q e rest (suc k) = rest k

-- a multiple of degree below 8 is 0
low_product : (q : List Bool) → ((k : ℕ) → 8 ≤ k → coefficient (times q generator) k ≡ false) → (k : ℕ) → coefficient (times q generator) k ≡ false
low_product [] low = λ k. refl
low_product (c ∷ q) low =
    let part = λ (k : ℕ). coefficient-plus (scaled c generator) (false ∷ times q generator) (suc k) in
    let rest = low_product q (λ k high.
    sym (part k ∙ ap (λ z. bit_sum z (coefficient (times q generator) k)) (high_scaled c k high)) ∙ low (suc k) (omega arith)) in
    product_is_zero c q (top_is_zero c (coefficient (times q generator) 7) (sym (part 7) ∙ low 8 (lit≤ tt)) (rest 7)) rest

high_byte : (byte k : ℕ) → 8 ≤ k → coefficient (of_byte byte) k ≡ false
high_byte byte k high = get_or-eq_default (of_byte byte) false {n = k} high

cancel : (p a b : Bool) → bit_sum (bit_sum p a) (bit_sum p b) ≡ bit_sum a b
cancel p a b = add_swap p a p b ∙ ap (λ z. bit_sum z (bit_sum a b)) (add_self p)

bit_at_from_bit_of : (a b i : ℕ) → bit_of a i ≡ bit_of b i → bit_at a i ≡ bit_at b i
bit_at_from_bit_of a b i =
    two_bits (λ x y. eqb x 1 ≡ eqb y 1 → x ≡ y) (λ h. refl) (λ h. cc) (λ h. cc) (λ h. refl) a b i

bit_of_coefficient : (a i : ℕ) → i < 8 → coefficient (of_byte a) (7 - i) ≡ bit_of a i
bit_of_coefficient a zero below = refl
bit_of_coefficient a (suc zero) below = refl
bit_of_coefficient a (suc (suc zero)) below = refl
bit_of_coefficient a (suc (suc (suc zero))) below = refl
bit_of_coefficient a (suc (suc (suc (suc zero)))) below = refl
bit_of_coefficient a (suc (suc (suc (suc (suc zero))))) below = refl
bit_of_coefficient a (suc (suc (suc (suc (suc (suc zero)))))) below = refl
bit_of_coefficient a (suc (suc (suc (suc (suc (suc (suc zero))))))) below = refl
bit_of_coefficient a (suc (suc (suc (suc (suc (suc (suc (suc i)))))))) below = absurd (omega arith)

pub remainder_unique : RemainderIsUnique
remainder_unique bytes r s m n =
    let p = times_power 8 (of_bytes bytes) in
    let both = IsMultiple-plus (plus p (of_byte r)) (plus p (of_byte s)) m.divides n.divides in
    let sum = λ (k : ℕ).
    coefficient-plus_by (plus p (of_byte r)) (plus p (of_byte s)) k _ _ (coefficient-plus p (of_byte r) k) (coefficient-plus p (of_byte s) k)
    ∙ cancel (coefficient p k) (coefficient (of_byte r) k) (coefficient (of_byte s) k) in
    let zero_product = low_product both.quotient (λ k high.
    sym (both.product k) ∙ sum k
    ∙ ap (λ z. bit_sum z (coefficient (of_byte s) k)) (high_byte r k high) ∙ high_byte s k high) in
    let same = λ (k : ℕ).
    same_from_add (coefficient (of_byte r) k) (coefficient (of_byte s) k) (sym (sum k) ∙ both.product k ∙ zero_product k) in
    same_from_bits_below 8 r s m.is_byte n.is_byte
    (λ i below. bit_at_from_bit_of r s i (sym (bit_of_coefficient r i below) ∙ same (7 - i) ∙ bit_of_coefficient s i below))
