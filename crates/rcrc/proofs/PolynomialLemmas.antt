-- Sums and multiples of polynomials, coefficient by coefficient.
use Rattle.std.proofs.Common.{◌≡◌, ℕ, zero, suc, ◌+◌, Bool, true, false, not, List, [], ◌∷◌, refl, sym, ap, ◌∙◌, cond, add-suc, add-zero}
use Rattle.rcrc.specs.Polynomial.{coefficient, IsSame, bit_sum, plus, times, times_power, generator, IsMultiple}

-- ---- the sum of two elements

not_not : (a : Bool) → not (not a) ≡ a
not_not true = refl
not_not false = refl

pub add_assoc : (a b c : Bool) → bit_sum (bit_sum a b) c ≡ bit_sum a (bit_sum b c)
add_assoc true true c = sym (not_not c)
add_assoc true false c = refl
add_assoc false b c = refl

pub add_comm : (a b : Bool) → bit_sum a b ≡ bit_sum b a
add_comm true true = refl
add_comm true false = refl
add_comm false true = refl
add_comm false false = refl

-- what is added twice goes
pub add_twice : (a b : Bool) → bit_sum a (bit_sum a b) ≡ b
add_twice true b = not_not b
add_twice false b = refl

pub add_self : (a : Bool) → bit_sum a a ≡ false
add_self true = refl
add_self false = refl

pub add-false : (a : Bool) → bit_sum a false ≡ a
add-false true = refl
add-false false = refl

add_left_comm : (a b c : Bool) → bit_sum a (bit_sum b c) ≡ bit_sum b (bit_sum a c)
add_left_comm a b c = sym (add_assoc a b c) ∙ ap (λ x. bit_sum x c) (add_comm a b) ∙ add_assoc b a c

pub add_swap : (a b c d : Bool) → bit_sum (bit_sum a b) (bit_sum c d) ≡ bit_sum (bit_sum a c) (bit_sum b d)
add_swap a b c d =
    add_assoc a b (bit_sum c d) ∙ ap (bit_sum a) (add_left_comm b c d) ∙ sym (add_assoc a c (bit_sum b d))

-- a sum that is 0 has equal parts
pub same_from_add : (a b : Bool) → bit_sum a b ≡ false → a ≡ b
same_from_add a b h = sym (add-false a) ∙ ap (bit_sum a) (sym h) ∙ add_twice a b

-- ---- coefficients

pub coefficient-plus : (p q : List Bool) (k : ℕ) → coefficient (plus p q) k ≡ bit_sum (coefficient p k) (coefficient q k)
coefficient-plus [] q k = refl
coefficient-plus (c ∷ p) [] k = sym (add-false (coefficient (c ∷ p) k))
coefficient-plus (c ∷ p) (d ∷ q) zero = refl
coefficient-plus (c ∷ p) (d ∷ q) (suc k) = coefficient-plus p q k

-- equal parts have equal sums
pub coefficient-plus_by : (p q : List Bool) (k : ℕ) (a b : Bool) → coefficient p k ≡ a → coefficient q k ≡ b → coefficient (plus p q) k ≡ bit_sum a b
coefficient-plus_by p q k a b x y = coefficient-plus p q k ∙ ap (λ z. bit_sum z (coefficient q k)) x ∙ ap (bit_sum a) y

pub coefficient-times_power_plus : (n : ℕ) (p q : List Bool) (k : ℕ) → coefficient (times_power n (plus p q)) k ≡ bit_sum (coefficient (times_power n p) k) (coefficient (times_power n q) k)
coefficient-times_power_plus zero p q k = coefficient-plus p q k
coefficient-times_power_plus (suc n) p q zero = refl
coefficient-times_power_plus (suc n) p q (suc k) = coefficient-times_power_plus n p q k

-- equal polynomials stay equal
pub coefficient-times_power_same : (n : ℕ) (p q : List Bool) → IsSame p q → (k : ℕ) → coefficient (times_power n p) k ≡ coefficient (times_power n q) k
coefficient-times_power_same zero p q h k = h k
coefficient-times_power_same (suc n) p q h zero = refl
coefficient-times_power_same (suc n) p q h (suc k) = coefficient-times_power_same n p q h k

pub times_power-suc : (n : ℕ) (p : List Bool) → times_power n (false ∷ p) ≡ false ∷ times_power n p
times_power-suc zero p = refl
times_power-suc (suc n) p = ap (λ (q : List Bool). false ∷ q) (times_power-suc n p)

pub times_power-add : (m n : ℕ) (p : List Bool) → times_power (m + n) p ≡ times_power n (times_power m p)
times_power-add m zero p = rw add-zero refl
times_power-add m (suc n) p = rw add-suc (ap (λ (q : List Bool). false ∷ q) (times_power-add m n p))

pub coefficient-times_power_nil : (n k : ℕ) → coefficient (times_power n []) k ≡ false
coefficient-times_power_nil zero k = refl
coefficient-times_power_nil (suc n) zero = refl
coefficient-times_power_nil (suc n) (suc k) = coefficient-times_power_nil n k

-- ---- products

-- c times q
abbrev pub scaled : Bool → List Bool → List Bool
scaled c q = cond c q []

coefficient-scaled_add : (c d : Bool) (q : List Bool) (k : ℕ) → coefficient (scaled (bit_sum c d) q) k ≡ bit_sum (coefficient (scaled c q) k) (coefficient (scaled d q) k)
coefficient-scaled_add true true q k = sym (add_self (coefficient q k))
coefficient-scaled_add true false q k = sym (add-false (coefficient q k))
coefficient-scaled_add false true q k = refl
coefficient-scaled_add false false q k = refl

pub coefficient-times_plus : (p q g : List Bool) (k : ℕ) → coefficient (times (plus p q) g) k ≡ bit_sum (coefficient (times p g) k) (coefficient (times q g) k)
coefficient-times_plus [] q g k = refl
coefficient-times_plus (c ∷ p) [] g k = sym (add-false (coefficient (times (c ∷ p) g) k))
coefficient-times_plus (c ∷ p) (d ∷ q) g zero =
    coefficient-plus_by (scaled (bit_sum c d) g) (false ∷ times (plus p q) g) zero _ _ (coefficient-scaled_add c d g zero) refl
    ∙ add_swap (coefficient (scaled c g) zero) (coefficient (scaled d g) zero) false false
    ∙ sym (ap (λ z. bit_sum z (coefficient (times (d ∷ q) g) zero)) (coefficient-plus (scaled c g) (false ∷ times p g) zero)
    ∙ ap (bit_sum (bit_sum (coefficient (scaled c g) zero) false)) (coefficient-plus (scaled d g) (false ∷ times q g) zero))
coefficient-times_plus (c ∷ p) (d ∷ q) g (suc k) =
    coefficient-plus_by (scaled (bit_sum c d) g) (false ∷ times (plus p q) g) (suc k) _ _ (coefficient-scaled_add c d g (suc k)) (coefficient-times_plus p q g k)
    ∙ add_swap (coefficient (scaled c g) (suc k)) (coefficient (scaled d g) (suc k)) (coefficient (times p g) k) (coefficient (times q g) k)
    ∙ sym (ap (λ z. bit_sum z (coefficient (times (d ∷ q) g) (suc k))) (coefficient-plus (scaled c g) (false ∷ times p g) (suc k))
    ∙ ap (bit_sum (bit_sum (coefficient (scaled c g) (suc k)) (coefficient (times p g) k))) (coefficient-plus (scaled d g) (false ∷ times q g) (suc k)))

-- ---- multiples of the generator

pub IsMultiple-same : (p q : List Bool) → IsSame q p → IsMultiple p → IsMultiple q
IsMultiple-same p q h m = record { quotient = m.quotient; product = λ k. h k ∙ m.product k }

pub IsMultiple-plus : (p q : List Bool) → IsMultiple p → IsMultiple q → IsMultiple (plus p q)
IsMultiple-plus p q m n = record {
  quotient = plus m.quotient n.quotient;
  product = λ k. coefficient-plus_by p q k _ _ (m.product k) (n.product k)
      ∙ sym (coefficient-times_plus m.quotient n.quotient generator k);
}

times_x_same : (p q : List Bool) → IsSame p (times q generator) → IsSame (false ∷ p) (times (false ∷ q) generator)
times_x_same p q h zero = refl
times_x_same p q h (suc k) = h k

pub IsMultiple-times_power : (n : ℕ) (p : List Bool) → IsMultiple p → IsMultiple (times_power n p)
IsMultiple-times_power zero p m = m
IsMultiple-times_power (suc n) p m =
    let rest = IsMultiple-times_power n p m in
    record { quotient = false ∷ rest.quotient; product = times_x_same (times_power n p) rest.quotient rest.product }
