-- The result of numbers in two ranges lies in the range of the table.
use Rattle.std.proofs.Common.{ℕ, ◌≡◌, ◌+◌, ◌-◌, ◌*◌, ◌/◌, ◌%◌, ◌^◌, ◌<◌, ◌≤◌, pos, ◌&&◌, min, max, subst, ⊎_elim, ap₂, arith}
use Rattle.std.specs.Prelude.{nat_lt, nat_le, if◌then◌else◌, bit_and, bit_or, bit_xor}
use Rattle.std.specs.Int.{w32, w64, int_shr}
use Rattle.std.proofs.lemmas.Int.{to_z_pos}
use Rattle.std.proofs.lemmas.Bool.{cases_eq}
use Rattle.std.proofs.lemmas.Nat.{and_le_l, and_le_r, le_or_l, le_or_r, or_lt, xor_lt, mul-le}
use Rattle.std.proofs.Math.Nat.{div-le_self, mod-le, mod-lt, mod-eq_of_lt, mul-le-mul_right}
use Rattle.bpf_parts.specs.declared.operation.Width.{Width}
use Rattle.bpf_parts.specs.declared.operation.Width.TheVariants.{Bits32, Bits64}
use Rattle.bpf_parts.specs.declared.operation.AluOp.{AluOp}
use Rattle.bpf_parts.specs.declared.operation.AluOp.TheVariants.{Add, Sub, Mul, Div, SignedDiv, Or, And, Lsh, Rsh, Mod, SignedMod, Xor, Mov, Arsh}
use Rattle.machine.specs.Words.{modulus, low_part, signed_value, wrapped_number, quotient, remainder, alu_low, alu_words}
use Rattle.absdom_num.specs.declared.ranges.Range.{Range}
use Rattle.absdom_num.specs.Ranges.{IsIn}
use Rattle.absdom_num.specs.Tables.{single_range, is_single, whole_range, sign_weight, low_range, sum_range, difference_range, product_range, quotient_range, remainder_range, and_range, or_range, xor_range, distance, left_range, right_range, signed_right_range, row, alu_range}
use Rattle.lemmas.proofs.Cases.{by_lt, by_le, by_eq}
use Rattle.absdom_num.proofs.Quotients.{quotient_grows, shift_grows}
use Rattle.absdom_num.proofs.Bounds.{modulus_most, mod_once, mod_small, residue_small, alu_low_small, low_small}
use Rattle.absdom_num.proofs.Ones.{ones_of}

-- the number lies between the ends
pub record Between (k : ℕ) (r : Range) : Type 0 where
  pub above : r.0 ≤ k
  pub below : k ≤ r.1

-- the number is one of the width, and lies in the range
pub record Holds (width : Width) (n : ℕ) (r : Range) : Type 0 where
  pub above : r.0 ≤ n
  pub below : n ≤ r.1
  pub small : n < modulus width

whole_fits : (width : Width) (k : ℕ) → k < modulus width → Between k (whole_range width)
whole_fits Bits32 k p = record { above = omega arith; below = omega arith }
whole_fits Bits64 k p = record { above = omega arith; below = omega arith }

sum_fits : (width : Width) (a b : Range) (n m : ℕ) → Holds width n a → Holds width m b → Between ((n + m) % modulus width) (sum_range width a b)
sum_fits width a b n m p q =
    by_lt
    (λ t. Between ((n + m) % modulus width)
    (if t then (a.0 + b.0, a.1 + b.1)
    else if nat_le (modulus width) (a.0 + b.0) then (a.0 + b.0 - modulus width, a.1 + b.1 - modulus width)
    else whole_range width))
    (a.1 + b.1) (modulus width)
    (λ h.
    let e : (n + m) % modulus width ≡ n + m = mod-eq_of_lt (omega arith) in
    record { above = omega arith; below = omega arith })
    (λ h.
    by_le
    (λ t. Between ((n + m) % modulus width)
    (if t then (a.0 + b.0 - modulus width, a.1 + b.1 - modulus width) else whole_range width))
    (modulus width) (a.0 + b.0)
    (λ g.
    let e : (n + m) % modulus width ≡ n + m - modulus width = mod_once width (n + m) (omega arith) (omega arith) in
    record { above = omega arith; below = omega arith })
    (λ g. whole_fits width _ (mod_small width (n + m))))

difference_fits : (width : Width) (a b : Range) (n m : ℕ) → Holds width n a → Holds width m b → Between ((n + (modulus width - m)) % modulus width) (difference_range width a b)
difference_fits width a b n m p q =
    by_le
    (λ t. Between ((n + (modulus width - m)) % modulus width)
    (if t then (a.0 - b.1, a.1 - b.0)
    else if nat_lt a.1 b.0 then (a.0 + modulus width - b.1, a.1 + modulus width - b.0)
    else whole_range width))
    b.1 a.0
    (λ h.
    let e : (n + (modulus width - m)) % modulus width ≡ n + (modulus width - m) - modulus width =
    mod_once width (n + (modulus width - m)) (omega arith) (omega arith) in
    record { above = omega arith; below = omega arith })
    (λ h.
    by_lt
    (λ t. Between ((n + (modulus width - m)) % modulus width)
    (if t then (a.0 + modulus width - b.1, a.1 + modulus width - b.0) else whole_range width))
    a.1 b.0
    (λ g.
    let e : (n + (modulus width - m)) % modulus width ≡ n + (modulus width - m) = mod-eq_of_lt (omega arith) in
    record { above = omega arith; below = omega arith })
    (λ g. whole_fits width _ (mod_small width (n + (modulus width - m)))))

product_fits : (width : Width) (a b : Range) (n m : ℕ) → Holds width n a → Holds width m b → Between ((n * m) % modulus width) (product_range width a b)
product_fits width a b n m p q =
    by_lt
    (λ t. Between ((n * m) % modulus width) (if t then (a.0 * b.0, a.1 * b.1) else whole_range width))
    (a.1 * b.1) (modulus width)
    (λ h.
    let u : n * m ≤ a.1 * b.1 = mul-le n m a.1 b.1 p.below q.below in
    let e : (n * m) % modulus width ≡ n * m = mod-eq_of_lt (omega arith) in
    record { above = omega (arith, mul-le a.0 b.0 n m p.above q.above); below = omega arith })
    (λ h. whole_fits width _ (mod_small width (n * m)))

quotient_fits : (a b : Range) (n m : ℕ) → Between n a → Between m b → Between (quotient n m) (quotient_range a b)
quotient_fits a b n m p q =
    by_le
    (λ t. Between (quotient n m) (if t then (a.0 / b.1, a.1 / b.0) else (0, a.1)))
    1 b.0
    (λ h.
    by_eq (λ t. Between (if t then 0 else n / m) (a.0 / b.1, a.1 / b.0)) m 0
    (λ e. absurd (omega arith))
    (λ e. record {
      above = quotient_grows a.0 n m b.1 p.above (omega arith) q.below;
      below = quotient_grows n a.1 b.0 m p.below (omega arith) q.above;
    }))
    (λ h.
    by_eq (λ t. Between (if t then 0 else n / m) (0, a.1)) m 0
    (λ e. record { above = omega arith; below = omega arith })
    (λ e. record { above = omega arith; below = omega (arith, div-le_self n m) }))

remainder_fits : (a b : Range) (n m : ℕ) → Between n a → Between m b → Between (remainder n m) (remainder_range a b)
remainder_fits a b n m p q =
    by_le
    (λ t. Between (remainder n m)
    (if t && nat_lt a.1 b.0 then a else if t then (0, min a.1 (b.1 - 1)) else (0, a.1)))
    1 b.0
    (λ h.
    by_eq
    (λ t. Between (if t then n else n % m) (if nat_lt a.1 b.0 then a else (0, min a.1 (b.1 - 1)))) m 0
    (λ e. absurd (omega arith))
    (λ e.
    by_lt (λ t. Between (n % m) (if t then a else (0, min a.1 (b.1 - 1)))) a.1 b.0
    (λ g.
    let f : n % m ≡ n = mod-eq_of_lt (omega arith) in
    record { above = omega arith; below = omega arith })
    (λ g.
    let f : n % m < m = mod-lt n (omega arith) in
    record { above = omega arith; below = omega (arith, mod-le n m) })))
    (λ h.
    by_eq (λ t. Between (if t then n else n % m) (0, a.1)) m 0
    (λ e. record { above = omega arith; below = omega arith })
    (λ e. record { above = omega arith; below = omega (arith, mod-le n m) }))

and_fits : (a b : Range) (n m : ℕ) → Between n a → Between m b → Between (bit_and n m) (and_range a b)
and_fits a b n m p q = record { above = omega arith; below = omega (arith, and_le_l n m, and_le_r n m) }

or_fits : (a b : Range) (n m : ℕ) → IsIn n a → IsIn m b → Between (bit_or n m) (or_range a b)
or_fits a b n m p q =
    let o = ones_of (max a.1 b.1) in
    let f : bit_or n m < 2 ^ o.0 = or_lt o.0 n m (o.1.room n (omega arith) p.word) (o.1.room m (omega arith) q.word) in
    record { above = omega (arith, le_or_l n m, le_or_r n m); below = rw o.1.ones (omega arith) }

xor_fits : (a b : Range) (n m : ℕ) → IsIn n a → IsIn m b → Between (bit_xor n m) (xor_range a b)
xor_fits a b n m p q =
    let o = ones_of (max a.1 b.1) in
    let f : bit_xor n m < 2 ^ o.0 = xor_lt o.0 n m (o.1.room n (omega arith) p.word) (o.1.room m (omega arith) q.word) in
    record { above = omega arith; below = rw o.1.ones (omega arith) }

-- by the count that the range has
left_at : (width : Width) (a b : Range) (n : ℕ) → Holds width n a → b.0 ≡ b.1 → Between ((n * 2 ^ distance width b.0) % modulus width) (left_range width a b)
left_at width a b n p s =
    by_eq
    (λ t. Between ((n * 2 ^ distance width b.0) % modulus width)
    (if t && nat_lt (a.1 * 2 ^ distance width b.0) (modulus width)
    then (a.0 * 2 ^ distance width b.0, a.1 * 2 ^ distance width b.0)
    else whole_range width))
    b.0 b.1
    (λ _.
    by_lt
    (λ t. Between ((n * 2 ^ distance width b.0) % modulus width)
    (if t then (a.0 * 2 ^ distance width b.0, a.1 * 2 ^ distance width b.0) else whole_range width))
    (a.1 * 2 ^ distance width b.0) (modulus width)
    (λ h.
    let u : n * 2 ^ distance width b.0 ≤ a.1 * 2 ^ distance width b.0 = mul-le-mul_right (2 ^ distance width b.0) p.below in
    let l : a.0 * 2 ^ distance width b.0 ≤ n * 2 ^ distance width b.0 = mul-le-mul_right (2 ^ distance width b.0) p.above in
    let e : (n * 2 ^ distance width b.0) % modulus width ≡ n * 2 ^ distance width b.0 = mod-eq_of_lt (omega arith) in
    record { above = omega arith; below = omega arith })
    (λ h. whole_fits width _ (mod_small width (n * 2 ^ distance width b.0))))
    (λ e. absurd (e s))

left_fits : (width : Width) (a b : Range) (n m : ℕ) → Holds width n a → Holds width m b → Between ((n * 2 ^ distance width m) % modulus width) (left_range width a b)
left_fits width a b n m p q =
    ⊎_elim
    (λ s.
    let e : b.0 ≡ m = omega arith in
    subst (λ x. Between ((n * 2 ^ distance width x) % modulus width) (left_range width a b)) e (left_at width a b n p s))
    (λ s.
    by_eq
    (λ t. Between ((n * 2 ^ distance width m) % modulus width)
    (if t && nat_lt (a.1 * 2 ^ distance width b.0) (modulus width)
    then (a.0 * 2 ^ distance width b.0, a.1 * 2 ^ distance width b.0)
    else whole_range width))
    b.0 b.1
    (λ e. absurd (s e))
    (λ _. whole_fits width _ (mod_small width (n * 2 ^ distance width m))))
    (cases_eq b.0 b.1)

right_fits : (width : Width) (a b : Range) (n m : ℕ) → Between n a → Between m b → Between (n / 2 ^ distance width m) (right_range width a b)
right_fits width a b n m p q =
    by_eq
    (λ t. Between (n / 2 ^ distance width m)
    (if t then (a.0 / 2 ^ distance width b.0, a.1 / 2 ^ distance width b.0) else (0, a.1)))
    b.0 b.1
    (λ s.
    let e : b.0 ≡ m = omega arith in
    subst (λ x. Between (n / 2 ^ distance width x) (a.0 / 2 ^ distance width b.0, a.1 / 2 ^ distance width b.0)) e
    (record {
      above = shift_grows a.0 n (distance width b.0) p.above;
      below = shift_grows n a.1 (distance width b.0) p.below;
    }))
    (λ s. record { above = omega arith; below = omega (arith, div-le_self n (2 ^ distance width m)) })

pub signed_small : (width : Width) (n : ℕ) → n < sign_weight width → signed_value width n ≡ pos n
signed_small Bits32 n h = to_z_pos w32 n h
signed_small Bits64 n h = to_z_pos w64 n h

pub half_less : (width : Width) → sign_weight width < modulus width
half_less Bits32 = omega arith
half_less Bits64 = omega arith

-- a number that is not negative is shifted as it is
shifted_small : (width : Width) (n d : ℕ) → n < sign_weight width → wrapped_number width (int_shr (signed_value width n) d) ≡ n / 2 ^ d
shifted_small width n d h =
    rw (signed_small width n h) (mod-eq_of_lt (omega (arith, half_less width, div-le_self n (2 ^ d))))

signed_right_fits : (width : Width) (a b : Range) (n m : ℕ) → Between n a → Between m b → Between (wrapped_number width (int_shr (signed_value width n) (distance width m))) (signed_right_range width a b)
signed_right_fits width a b n m p q =
    by_le
    (λ t. Between (wrapped_number width (int_shr (signed_value width n) (distance width m))) (if t then whole_range width else right_range width a b))
    (sign_weight width) a.1
    (λ h. whole_fits width _ (residue_small width (int_shr (signed_value width n) (distance width m))))
    (λ h. rw (shifted_small width n (distance width m) (omega arith)) (right_fits width a b n m p q))

between : (width : Width) (n : ℕ) (a : Range) → Holds width n a → Between n a
between width n a p = record { above = p.above; below = p.below }

is_in : (width : Width) (n : ℕ) (a : Range) → Holds width n a → IsIn n a
is_in width n a p = record { above = p.above; below = p.below; word = omega (arith, modulus_most width) }

row_fits : (op : AluOp) (width : Width) (a b : Range) (n m : ℕ) → Holds width n a → Holds width m b → Between (alu_low op width n m) (row op width a b)
row_fits Add width a b n m p q = sum_fits width a b n m p q
row_fits Sub width a b n m p q = difference_fits width a b n m p q
row_fits Mul width a b n m p q = product_fits width a b n m p q
row_fits Div width a b n m p q = quotient_fits a b n m (between width n a p) (between width m b q)
row_fits SignedDiv width a b n m p q = whole_fits width _ (alu_low_small SignedDiv width n m p.small q.small)
row_fits Or width a b n m p q = or_fits a b n m (is_in width n a p) (is_in width m b q)
row_fits And width a b n m p q = and_fits a b n m (between width n a p) (between width m b q)
row_fits Lsh width a b n m p q = left_fits width a b n m p q
row_fits Rsh width a b n m p q = right_fits width a b n m (between width n a p) (between width m b q)
row_fits Mod width a b n m p q = remainder_fits a b n m (between width n a p) (between width m b q)
row_fits SignedMod width a b n m p q = whole_fits width _ (alu_low_small SignedMod width n m p.small q.small)
row_fits Xor width a b n m p q = xor_fits a b n m (is_in width n a p) (is_in width m b q)
row_fits Mov width a b n m p q = between width m b q
row_fits Arsh width a b n m p q = signed_right_fits width a b n m (between width n a p) (between width m b q)

pub cut_fits : (width : Width) (a : Range) (n : ℕ) → IsIn n a → Holds width (low_part width n) (low_range width a)
cut_fits Bits64 a n p = record { above = p.above; below = p.below; small = p.word }
cut_fits Bits32 a n p =
    by_lt
    (λ t. Holds Bits32 (n % 2 ^ 32) (if t then a else if is_single a then single_range (a.0 % 2 ^ 32) else whole_range Bits32))
    a.1 (2 ^ 32)
    (λ h. record { above = omega arith; below = omega arith; small = omega arith })
    (λ h.
    by_eq (λ t. Holds Bits32 (n % 2 ^ 32) (if t then single_range (a.0 % 2 ^ 32) else whole_range Bits32)) a.0 a.1
    (λ e. record { above = omega arith; below = omega arith; small = omega arith })
    (λ e. record { above = omega arith; below = omega arith; small = omega arith }))

pub alu_words_small : (op : AluOp) (width : Width) (n m : ℕ) → n < 2 ^ 64 → m < 2 ^ 64 → alu_words op width n m < 2 ^ 64
alu_words_small op width n m p q =
    omega (arith, modulus_most width, alu_low_small op width (low_part width n) (low_part width m) (low_small width n p) (low_small width m q))

rest_fits : (op : AluOp) (width : Width) (a b : Range) (n m : ℕ) → IsIn n a → IsIn m b → IsIn (alu_words op width n m) (row op width (low_range width a) (low_range width b))
rest_fits op width a b n m p q =
    let f : Between (alu_words op width n m) (row op width (low_range width a) (low_range width b)) =
    row_fits op width (low_range width a) (low_range width b) (low_part width n) (low_part width m) (cut_fits width a n p) (cut_fits width b m q) in
    record { above = f.above; below = f.below; word = alu_words_small op width n m p.word q.word }

only_fits : (k j : ℕ) → k ≡ j → k < 2 ^ 64 → IsIn k (single_range j)
only_fits k j e h = record { above = omega arith; below = omega arith; word = h }

exact_fits : (op : AluOp) (width : Width) (a b : Range) (n m : ℕ) → IsIn n a → IsIn m b → a.0 ≡ a.1 → b.0 ≡ b.1 → IsIn (alu_words op width n m) (single_range (alu_words op width a.0 b.0))
exact_fits op width a b n m p q s t =
    let e : n ≡ a.0 = omega arith in
    let f : m ≡ b.0 = omega arith in
    only_fits _ _ (ap₂ (alu_words op width) e f) (alu_words_small op width n m p.word q.word)

pub alu_fits : (op : AluOp) (width : Width) (a b : Range) (n m : ℕ) → IsIn n a → IsIn m b → IsIn (alu_words op width n m) (alu_range op width a b)
alu_fits op width a b n m p q =
    by_eq
    (λ t. IsIn (alu_words op width n m)
    (if t && is_single b then single_range (alu_words op width a.0 b.0) else row op width (low_range width a) (low_range width b)))
    a.0 a.1
    (λ e.
    by_eq
    (λ t. IsIn (alu_words op width n m)
    (if t then single_range (alu_words op width a.0 b.0) else row op width (low_range width a) (low_range width b)))
    b.0 b.1
    (λ f. exact_fits op width a b n m p q e f)
    (λ f. rest_fits op width a b n m p q))
    (λ e. rest_fits op width a b n m p q)
