-- Larger operands give results that are at least as large.
use Rattle.std.proofs.Common.{ℕ, ◌≡◌, ◌+◌, ◌-◌, ◌*◌, ◌/◌, ◌%◌, ◌^◌, ◌<◌, ◌≤◌, ◌&&◌, min, max, sym, subst, ⊎_elim, arith}
use Rattle.std.specs.Prelude.{nat_lt, nat_le, if◌then◌else◌}
use Rattle.std.proofs.lemmas.Bool.{cases_eq}
use Rattle.std.proofs.lemmas.Nat.{mul-le}
use Rattle.std.proofs.Math.Nat.{div-le_self, mul-le-mul_right}
use Rattle.bpf_parts.specs.declared.operation.Width.{Width}
use Rattle.bpf_parts.specs.declared.operation.Width.TheVariants.{Bits32, Bits64}
use Rattle.bpf_parts.specs.declared.operation.AluOp.{AluOp}
use Rattle.bpf_parts.specs.declared.operation.AluOp.TheVariants.{Add, Sub, Mul, Div, SignedDiv, Or, And, Lsh, Rsh, Mod, SignedMod, Xor, Mov, Arsh}
use Rattle.bpf_parts.specs.declared.operation.Extension.{Extension}
use Rattle.bpf_parts.specs.declared.operation.Extension.TheVariants.{ByteTo32, HalfTo32, ByteTo64, HalfTo64, WordTo64}
use Rattle.bpf_parts.specs.Codes.{extension_width}
use Rattle.machine.specs.Words.{modulus, alu_words, negation, sign_extension, swapped_bytes}
use Rattle.absdom_num.specs.declared.ranges.Range.{Range}
use Rattle.absdom_num.specs.Ranges.{IsRange, IsIn, IsWithin}
use Rattle.absdom_num.specs.Tables.{single_range, is_single, whole_range, sign_weight, low_range, sum_range, difference_range, product_range, quotient_range, remainder_range, ones_over, or_range, xor_range, distance, left_range, right_range, signed_right_range, row, alu_range, negated_range, sign_bit, extended_range, greatest_number, swapped_range}
use Rattle.absdom_num.specs.Laws.{AluGrows, NegateGrows, MoveSignedGrows, ByteSwapGrows}
use Rattle.lemmas.proofs.Cases.{by_lt, by_le, by_eq}
use Rattle.absdom_num.proofs.Quotients.{quotient_grows, shift_grows}
use Rattle.absdom_num.proofs.Bounds.{modulus_pos, modulus_most}
use Rattle.absdom_num.proofs.Ones.{ones_of, ones_least}
use Rattle.absdom_num.proofs.Order.{within_same, only_within}
use Rattle.absdom_num.proofs.Fits.{alu_fits}
use Rattle.absdom_num.proofs.Unary.{negate_fits, move_signed_fits, byte_swap_fits}

-- a range of numbers of the width
pub record Proper (width : Width) (a : Range) : Type 0 where
  pub in_order : a.0 ≤ a.1
  pub small : a.1 < modulus width

whole_small : (width : Width) → (whole_range width).1 < modulus width
whole_small width = omega (arith, modulus_pos width)

in_whole : (width : Width) (a : Range) → a.1 < modulus width → IsWithin a (whole_range width)
in_whole width a h = record { above = omega arith; below = omega arith }

sum_small : (width : Width) (a b : Range) → Proper width a → Proper width b → (sum_range width a b).1 < modulus width
sum_small width a b p q =
    by_lt
    (λ t. (if t then (a.0 + b.0, a.1 + b.1)
    else if nat_le (modulus width) (a.0 + b.0) then (a.0 + b.0 - modulus width, a.1 + b.1 - modulus width)
    else whole_range width).1 < modulus width)
    (a.1 + b.1) (modulus width)
    (λ h. h)
    (λ h.
    by_le (λ t. (if t then (a.0 + b.0 - modulus width, a.1 + b.1 - modulus width) else whole_range width).1 < modulus width)
    (modulus width) (a.0 + b.0)
    (λ g. omega arith)
    (λ g. whole_small width))

sum_grows : (width : Width) (a b c d : Range) → Proper width a → Proper width b → IsWithin a c → IsWithin b d → IsWithin (sum_range width a b) (sum_range width c d)
sum_grows width a b c d p q r s =
    by_lt
    (λ t. IsWithin (sum_range width a b)
    (if t then (c.0 + d.0, c.1 + d.1)
    else if nat_le (modulus width) (c.0 + d.0) then (c.0 + d.0 - modulus width, c.1 + d.1 - modulus width)
    else whole_range width))
    (c.1 + d.1) (modulus width)
    (λ h.
    by_lt
    (λ t. IsWithin
    (if t then (a.0 + b.0, a.1 + b.1)
    else if nat_le (modulus width) (a.0 + b.0) then (a.0 + b.0 - modulus width, a.1 + b.1 - modulus width)
    else whole_range width)
    (c.0 + d.0, c.1 + d.1))
    (a.1 + b.1) (modulus width)
    (λ g. record { above = omega arith; below = omega arith })
    (λ g. absurd (omega arith)))
    (λ h.
    by_le
    (λ t. IsWithin (sum_range width a b)
    (if t then (c.0 + d.0 - modulus width, c.1 + d.1 - modulus width) else whole_range width))
    (modulus width) (c.0 + d.0)
    (λ g.
    by_lt
    (λ t. IsWithin
    (if t then (a.0 + b.0, a.1 + b.1)
    else if nat_le (modulus width) (a.0 + b.0) then (a.0 + b.0 - modulus width, a.1 + b.1 - modulus width)
    else whole_range width)
    (c.0 + d.0 - modulus width, c.1 + d.1 - modulus width))
    (a.1 + b.1) (modulus width)
    (λ f. absurd (omega arith))
    (λ f.
    by_le
    (λ t. IsWithin
    (if t then (a.0 + b.0 - modulus width, a.1 + b.1 - modulus width) else whole_range width)
    (c.0 + d.0 - modulus width, c.1 + d.1 - modulus width))
    (modulus width) (a.0 + b.0)
    (λ e. record { above = omega arith; below = omega arith })
    (λ e. absurd (omega arith))))
    (λ g. in_whole width _ (sum_small width a b p q)))

difference_small : (width : Width) (a b : Range) → Proper width a → Proper width b → (difference_range width a b).1 < modulus width
difference_small width a b p q =
    by_le
    (λ t. (if t then (a.0 - b.1, a.1 - b.0)
    else if nat_lt a.1 b.0 then (a.0 + modulus width - b.1, a.1 + modulus width - b.0)
    else whole_range width).1 < modulus width)
    b.1 a.0
    (λ h. omega arith)
    (λ h.
    by_lt (λ t. (if t then (a.0 + modulus width - b.1, a.1 + modulus width - b.0) else whole_range width).1 < modulus width)
    a.1 b.0
    (λ g. omega arith)
    (λ g. whole_small width))

difference_grows : (width : Width) (a b c d : Range) → Proper width a → Proper width b → IsWithin a c → IsWithin b d → IsWithin (difference_range width a b) (difference_range width c d)
difference_grows width a b c d p q r s =
    by_le
    (λ t. IsWithin (difference_range width a b)
    (if t then (c.0 - d.1, c.1 - d.0)
    else if nat_lt c.1 d.0 then (c.0 + modulus width - d.1, c.1 + modulus width - d.0)
    else whole_range width))
    d.1 c.0
    (λ h.
    by_le
    (λ t. IsWithin
    (if t then (a.0 - b.1, a.1 - b.0)
    else if nat_lt a.1 b.0 then (a.0 + modulus width - b.1, a.1 + modulus width - b.0)
    else whole_range width)
    (c.0 - d.1, c.1 - d.0))
    b.1 a.0
    (λ g. record { above = omega arith; below = omega arith })
    (λ g. absurd (omega arith)))
    (λ h.
    by_lt
    (λ t. IsWithin (difference_range width a b)
    (if t then (c.0 + modulus width - d.1, c.1 + modulus width - d.0) else whole_range width))
    c.1 d.0
    (λ g.
    by_le
    (λ t. IsWithin
    (if t then (a.0 - b.1, a.1 - b.0)
    else if nat_lt a.1 b.0 then (a.0 + modulus width - b.1, a.1 + modulus width - b.0)
    else whole_range width)
    (c.0 + modulus width - d.1, c.1 + modulus width - d.0))
    b.1 a.0
    (λ f. absurd (omega arith))
    (λ f.
    by_lt
    (λ t. IsWithin
    (if t then (a.0 + modulus width - b.1, a.1 + modulus width - b.0) else whole_range width)
    (c.0 + modulus width - d.1, c.1 + modulus width - d.0))
    a.1 b.0
    (λ e. record { above = omega arith; below = omega arith })
    (λ e. absurd (omega arith))))
    (λ g. in_whole width _ (difference_small width a b p q)))

product_small : (width : Width) (a b : Range) → (product_range width a b).1 < modulus width
product_small width a b =
    by_lt (λ t. (if t then (a.0 * b.0, a.1 * b.1) else whole_range width).1 < modulus width) (a.1 * b.1) (modulus width)
    (λ h. h)
    (λ h. whole_small width)

product_grows : (width : Width) (a b c d : Range) → IsWithin a c → IsWithin b d → IsWithin (product_range width a b) (product_range width c d)
product_grows width a b c d r s =
    by_lt (λ t. IsWithin (product_range width a b) (if t then (c.0 * d.0, c.1 * d.1) else whole_range width)) (c.1 * d.1) (modulus width)
    (λ h.
    let u : a.1 * b.1 ≤ c.1 * d.1 = mul-le a.1 b.1 c.1 d.1 r.below s.below in
    by_lt (λ t. IsWithin (if t then (a.0 * b.0, a.1 * b.1) else whole_range width) (c.0 * d.0, c.1 * d.1)) (a.1 * b.1) (modulus width)
    (λ g. record { above = mul-le c.0 d.0 a.0 b.0 r.above s.above; below = u })
    (λ g. absurd (omega arith)))
    (λ h. in_whole width _ (product_small width a b))

quotient_range_grows : (a b c d : Range) → b.0 ≤ b.1 → IsWithin a c → IsWithin b d → IsWithin (quotient_range a b) (quotient_range c d)
quotient_range_grows a b c d o r s =
    by_le (λ t. IsWithin (quotient_range a b) (if t then (c.0 / d.1, c.1 / d.0) else (0, c.1))) 1 d.0
    (λ h.
    by_le (λ t. IsWithin (if t then (a.0 / b.1, a.1 / b.0) else (0, a.1)) (c.0 / d.1, c.1 / d.0)) 1 b.0
    (λ g. record {
      above = quotient_grows c.0 a.0 b.1 d.1 r.above (omega arith) s.below;
      below = quotient_grows a.1 c.1 d.0 b.0 r.below (omega arith) s.above;
    })
    (λ g. absurd (omega arith)))
    (λ h.
    by_le (λ t. IsWithin (if t then (a.0 / b.1, a.1 / b.0) else (0, a.1)) (0, c.1)) 1 b.0
    (λ g. record { above = omega arith; below = omega (arith, div-le_self a.1 b.0) })
    (λ g. record { above = omega arith; below = omega arith }))

remainder_range_grows : (a b c d : Range) → b.0 ≤ b.1 → IsWithin a c → IsWithin b d → IsWithin (remainder_range a b) (remainder_range c d)
remainder_range_grows a b c d o r s =
    by_le
    (λ t. IsWithin (remainder_range a b)
    (if t && nat_lt c.1 d.0 then c else if t then (0, min c.1 (d.1 - 1)) else (0, c.1)))
    1 d.0
    (λ h.
    by_le
    (λ t. IsWithin
    (if t && nat_lt a.1 b.0 then a else if t then (0, min a.1 (b.1 - 1)) else (0, a.1))
    (if nat_lt c.1 d.0 then c else (0, min c.1 (d.1 - 1))))
    1 b.0
    (λ g.
    by_lt
    (λ t. IsWithin (if nat_lt a.1 b.0 then a else (0, min a.1 (b.1 - 1))) (if t then c else (0, min c.1 (d.1 - 1))))
    c.1 d.0
    (λ f.
    by_lt (λ t. IsWithin (if t then a else (0, min a.1 (b.1 - 1))) c) a.1 b.0
    (λ e. r)
    (λ e. absurd (omega arith)))
    (λ f.
    by_lt (λ t. IsWithin (if t then a else (0, min a.1 (b.1 - 1))) (0, min c.1 (d.1 - 1))) a.1 b.0
    (λ e. record { above = omega arith; below = omega arith })
    (λ e. record { above = omega arith; below = omega arith })))
    (λ g. absurd (omega arith)))
    (λ h.
    by_le
    (λ t. IsWithin (if t && nat_lt a.1 b.0 then a else if t then (0, min a.1 (b.1 - 1)) else (0, a.1)) (0, c.1))
    1 b.0
    (λ g.
    by_lt (λ t. IsWithin (if t then a else (0, min a.1 (b.1 - 1))) (0, c.1)) a.1 b.0
    (λ e. record { above = omega arith; below = omega arith })
    (λ e. record { above = omega arith; below = omega arith }))
    (λ g. record { above = omega arith; below = omega arith }))

ones_grow : (x y : ℕ) → x < 2 ^ 64 → x ≤ y → ones_over x ≤ ones_over y
ones_grow x y p q =
    let o = ones_of y in
    rw o.1.ones (ones_least x o.0 p (o.1.room x q p))

or_range_grows : (a b c d : Range) → a.1 < 2 ^ 64 → b.1 < 2 ^ 64 → IsWithin a c → IsWithin b d → IsWithin (or_range a b) (or_range c d)
or_range_grows a b c d p q r s =
    record { above = omega arith; below = ones_grow (max a.1 b.1) (max c.1 d.1) (omega arith) (omega arith) }

xor_range_grows : (a b c d : Range) → a.1 < 2 ^ 64 → b.1 < 2 ^ 64 → IsWithin a c → IsWithin b d → IsWithin (xor_range a b) (xor_range c d)
xor_range_grows a b c d p q r s =
    record { above = omega arith; below = ones_grow (max a.1 b.1) (max c.1 d.1) (omega arith) (omega arith) }

left_small : (width : Width) (a b : Range) → (left_range width a b).1 < modulus width
left_small width a b =
    by_eq
    (λ t. (if t && nat_lt (a.1 * 2 ^ distance width b.0) (modulus width)
    then (a.0 * 2 ^ distance width b.0, a.1 * 2 ^ distance width b.0)
    else whole_range width).1 < modulus width)
    b.0 b.1
    (λ e.
    by_lt
    (λ t. (if t then (a.0 * 2 ^ distance width b.0, a.1 * 2 ^ distance width b.0) else whole_range width).1 < modulus width)
    (a.1 * 2 ^ distance width b.0) (modulus width)
    (λ h. h)
    (λ h. whole_small width))
    (λ e. whole_small width)

-- by the one count that both have
left_grows_at : (width : Width) (a c d : Range) → IsWithin a c → d.0 ≡ d.1 → IsWithin (left_range width a d) (left_range width c d)
left_grows_at width a c d r s =
    by_eq
    (λ t. IsWithin (left_range width a d)
    (if t && nat_lt (c.1 * 2 ^ distance width d.0) (modulus width)
    then (c.0 * 2 ^ distance width d.0, c.1 * 2 ^ distance width d.0)
    else whole_range width))
    d.0 d.1
    (λ _.
    by_lt
    (λ t. IsWithin (left_range width a d)
    (if t then (c.0 * 2 ^ distance width d.0, c.1 * 2 ^ distance width d.0) else whole_range width))
    (c.1 * 2 ^ distance width d.0) (modulus width)
    (λ h.
    let u : a.1 * 2 ^ distance width d.0 ≤ c.1 * 2 ^ distance width d.0 = mul-le-mul_right (2 ^ distance width d.0) r.below in
    let l : c.0 * 2 ^ distance width d.0 ≤ a.0 * 2 ^ distance width d.0 = mul-le-mul_right (2 ^ distance width d.0) r.above in
    by_eq
    (λ t. IsWithin
    (if t && nat_lt (a.1 * 2 ^ distance width d.0) (modulus width)
    then (a.0 * 2 ^ distance width d.0, a.1 * 2 ^ distance width d.0)
    else whole_range width)
    (c.0 * 2 ^ distance width d.0, c.1 * 2 ^ distance width d.0))
    d.0 d.1
    (λ _.
    by_lt
    (λ t. IsWithin
    (if t then (a.0 * 2 ^ distance width d.0, a.1 * 2 ^ distance width d.0) else whole_range width)
    (c.0 * 2 ^ distance width d.0, c.1 * 2 ^ distance width d.0))
    (a.1 * 2 ^ distance width d.0) (modulus width)
    (λ g. record { above = l; below = u })
    (λ g. absurd (omega arith)))
    (λ e. absurd (e s)))
    (λ h. in_whole width _ (left_small width a d)))
    (λ e. absurd (e s))

left_grows : (width : Width) (a b c d : Range) → b.0 ≤ b.1 → IsWithin a c → IsWithin b d → IsWithin (left_range width a b) (left_range width c d)
left_grows width a b c d o r s =
    ⊎_elim
    (λ e. subst (λ x. IsWithin (left_range width a x) (left_range width c d)) (sym (only_within b d o e s)) (left_grows_at width a c d r e))
    (λ e.
    by_eq
    (λ t. IsWithin (left_range width a b)
    (if t && nat_lt (c.1 * 2 ^ distance width d.0) (modulus width)
    then (c.0 * 2 ^ distance width d.0, c.1 * 2 ^ distance width d.0)
    else whole_range width))
    d.0 d.1
    (λ f. absurd (e f))
    (λ f. in_whole width _ (left_small width a b)))
    (cases_eq d.0 d.1)

abbrev high_end : Range → ℕ
high_end a = a.1

right_below : (width : Width) (a b : Range) → (right_range width a b).1 ≤ a.1
right_below width a b =
    by_eq (λ t. high_end (if t then (a.0 / 2 ^ distance width b.0, a.1 / 2 ^ distance width b.0) else (0, a.1)) ≤ a.1) b.0 b.1
    (λ e. div-le_self a.1 (2 ^ distance width b.0))
    (λ e. omega arith)

right_grows_at : (width : Width) (a c d : Range) → IsWithin a c → d.0 ≡ d.1 → IsWithin (right_range width a d) (right_range width c d)
right_grows_at width a c d r s =
    by_eq
    (λ t. IsWithin
    (if t then (a.0 / 2 ^ distance width d.0, a.1 / 2 ^ distance width d.0) else (0, a.1))
    (if t then (c.0 / 2 ^ distance width d.0, c.1 / 2 ^ distance width d.0) else (0, c.1)))
    d.0 d.1
    (λ _. record {
      above = shift_grows c.0 a.0 (distance width d.0) r.above;
      below = shift_grows a.1 c.1 (distance width d.0) r.below;
    })
    (λ e. absurd (e s))

right_grows : (width : Width) (a b c d : Range) → b.0 ≤ b.1 → IsWithin a c → IsWithin b d → IsWithin (right_range width a b) (right_range width c d)
right_grows width a b c d o r s =
    ⊎_elim
    (λ e. subst (λ x. IsWithin (right_range width a x) (right_range width c d)) (sym (only_within b d o e s)) (right_grows_at width a c d r e))
    (λ e.
    by_eq
    (λ t. IsWithin (right_range width a b)
    (if t then (c.0 / 2 ^ distance width d.0, c.1 / 2 ^ distance width d.0) else (0, c.1)))
    d.0 d.1
    (λ f. absurd (e f))
    (λ f. record { above = omega arith; below = omega (arith, right_below width a b) }))
    (cases_eq d.0 d.1)

signed_right_small : (width : Width) (a b : Range) → a.1 < modulus width → (signed_right_range width a b).1 < modulus width
signed_right_small width a b h =
    by_le (λ t. (if t then whole_range width else right_range width a b).1 < modulus width) (sign_weight width) a.1
    (λ _. whole_small width)
    (λ _. omega (arith, right_below width a b))

signed_right_grows : (width : Width) (a b c d : Range) → Proper width a → b.0 ≤ b.1 → IsWithin a c → IsWithin b d → IsWithin (signed_right_range width a b) (signed_right_range width c d)
signed_right_grows width a b c d p o r s =
    by_le (λ t. IsWithin (signed_right_range width a b) (if t then whole_range width else right_range width c d)) (sign_weight width) c.1
    (λ h. in_whole width _ (signed_right_small width a b p.small))
    (λ h.
    by_le (λ t. IsWithin (if t then whole_range width else right_range width a b) (right_range width c d)) (sign_weight width) a.1
    (λ g. absurd (omega arith))
    (λ g. right_grows width a b c d o r s))

word_of : (width : Width) (a : Range) → Proper width a → a.1 < 2 ^ 64
word_of width a p = omega (arith, modulus_most width)

row_grows : (op : AluOp) (width : Width) (a b c d : Range) → Proper width a → Proper width b → IsWithin a c → IsWithin b d → IsWithin (row op width a b) (row op width c d)
row_grows Add width a b c d p q r s = sum_grows width a b c d p q r s
row_grows Sub width a b c d p q r s = difference_grows width a b c d p q r s
row_grows Mul width a b c d p q r s = product_grows width a b c d r s
row_grows Div width a b c d p q r s = quotient_range_grows a b c d q.in_order r s
row_grows SignedDiv width a b c d p q r s = within_same (whole_range width)
row_grows Or width a b c d p q r s = or_range_grows a b c d (word_of width a p) (word_of width b q) r s
row_grows And width a b c d p q r s = record { above = omega arith; below = omega arith }
row_grows Lsh width a b c d p q r s = left_grows width a b c d q.in_order r s
row_grows Rsh width a b c d p q r s = right_grows width a b c d q.in_order r s
row_grows Mod width a b c d p q r s = remainder_range_grows a b c d q.in_order r s
row_grows SignedMod width a b c d p q r s = within_same (whole_range width)
row_grows Xor width a b c d p q r s = xor_range_grows a b c d (word_of width a p) (word_of width b q) r s
row_grows Mov width a b c d p q r s = s
row_grows Arsh width a b c d p q r s = signed_right_grows width a b c d p q.in_order r s

cut_proper : (width : Width) (a : Range) → IsRange a → Proper width (low_range width a)
cut_proper Bits64 a p = record { in_order = p.in_order; small = p.words }
cut_proper Bits32 a p =
    by_lt (λ t. Proper Bits32 (if t then a else if is_single a then single_range (a.0 % 2 ^ 32) else whole_range Bits32)) a.1 (2 ^ 32)
    (λ h. record { in_order = p.in_order; small = h })
    (λ h.
    by_eq (λ t. Proper Bits32 (if t then single_range (a.0 % 2 ^ 32) else whole_range Bits32)) a.0 a.1
    (λ e. record { in_order = omega arith; small = omega arith })
    (λ e. record { in_order = omega arith; small = omega arith }))

cut_grows : (width : Width) (a c : Range) → IsRange a → IsWithin a c → IsWithin (low_range width a) (low_range width c)
cut_grows Bits64 a c p r = r
cut_grows Bits32 a c p r =
    ⊎_elim
    (λ e. subst (λ x. IsWithin (low_range Bits32 x) (low_range Bits32 c)) (sym (only_within a c p.in_order e r)) (within_same (low_range Bits32 c)))
    (λ e.
    by_lt (λ t. IsWithin (low_range Bits32 a) (if t then c else if is_single c then single_range (c.0 % 2 ^ 32) else whole_range Bits32)) c.1 (2 ^ 32)
    (λ h.
    by_lt (λ t. IsWithin (if t then a else if is_single a then single_range (a.0 % 2 ^ 32) else whole_range Bits32) c) a.1 (2 ^ 32)
    (λ g. r)
    (λ g. absurd (omega arith)))
    (λ h.
    by_eq (λ t. IsWithin (low_range Bits32 a) (if t then single_range (c.0 % 2 ^ 32) else whole_range Bits32)) c.0 c.1
    (λ f. absurd (e f))
    (λ f. in_whole Bits32 _ (cut_proper Bits32 a p).small)))
    (cases_eq c.0 c.1)

only_in : (n : ℕ) (r : Range) → IsIn n r → IsWithin (single_range n) r
only_in n r p = record { above = p.above; below = p.below }

low_in : (a c : Range) → IsRange a → IsWithin a c → IsIn a.0 c
low_in a c p r = record { above = r.above; below = omega arith; word = omega arith }

rest_grows : (op : AluOp) (width : Width) (a b c d : Range) → IsRange a → IsRange b → IsWithin a c → IsWithin b d → IsWithin (row op width (low_range width a) (low_range width b)) (row op width (low_range width c) (low_range width d))
rest_grows op width a b c d p q r s =
    row_grows op width (low_range width a) (low_range width b) (low_range width c) (low_range width d)
    (cut_proper width a p) (cut_proper width b q) (cut_grows width a c p r) (cut_grows width b d q s)

-- if one of the smaller operands is no single number
open_grows : (op : AluOp) (width : Width) (a b c d : Range) → IsRange a → IsRange b → IsWithin a c → IsWithin b d → (a.0 ≡ a.1 → b.0 ≡ b.1 → ⊥) → IsWithin (row op width (low_range width a) (low_range width b)) (alu_range op width c d)
open_grows op width a b c d p q r s n =
    by_eq
    (λ t. IsWithin (row op width (low_range width a) (low_range width b))
    (if t && is_single d then single_range (alu_words op width c.0 d.0) else row op width (low_range width c) (low_range width d)))
    c.0 c.1
    (λ e.
    by_eq
    (λ t. IsWithin (row op width (low_range width a) (low_range width b))
    (if t then single_range (alu_words op width c.0 d.0) else row op width (low_range width c) (low_range width d)))
    d.0 d.1
    (λ f. absurd (n (omega (arith, p.in_order)) (omega (arith, q.in_order))))
    (λ f. rest_grows op width a b c d p q r s))
    (λ e. rest_grows op width a b c d p q r s)

pub alu_grows : AluGrows
alu_grows op width a b c d p q r s =
    by_eq
    (λ t. IsWithin
    (if t && is_single b then single_range (alu_words op width a.0 b.0) else row op width (low_range width a) (low_range width b))
    (alu_range op width c d))
    a.0 a.1
    (λ e.
    by_eq
    (λ t. IsWithin
    (if t then single_range (alu_words op width a.0 b.0) else row op width (low_range width a) (low_range width b))
    (alu_range op width c d))
    b.0 b.1
    (λ f. only_in _ _ (alu_fits op width c d a.0 b.0 (low_in a c p r) (low_in b d q s)))
    (λ f. open_grows op width a b c d p q r s (λ _ g. f g)))
    (λ e. open_grows op width a b c d p q r s (λ g _. e g))

pub negate_grows : NegateGrows
negate_grows width a c p r =
    by_eq (λ t. IsWithin (if t then single_range (negation width a.0) else whole_range width) (negated_range width c)) a.0 a.1
    (λ e. only_in _ _ (negate_fits width c a.0 (low_in a c p r)))
    (λ e.
    by_eq (λ t. IsWithin (whole_range width) (if t then single_range (negation width c.0) else whole_range width)) c.0 c.1
    (λ f. absurd (e (omega (arith, p.in_order))))
    (λ f. within_same (whole_range width)))

sign_less : (extension : Extension) → sign_bit extension ≤ modulus (extension_width extension)
sign_less ByteTo32 = omega arith
sign_less HalfTo32 = omega arith
sign_less ByteTo64 = omega arith
sign_less HalfTo64 = omega arith
sign_less WordTo64 = omega arith

pub move_signed_grows : MoveSignedGrows
move_signed_grows extension a c p r =
    by_eq
    (λ t. IsWithin
    (if t then single_range (sign_extension extension a.0)
    else if nat_lt a.1 (sign_bit extension) then a
    else whole_range (extension_width extension))
    (extended_range extension c))
    a.0 a.1
    (λ e. only_in _ _ (move_signed_fits extension c a.0 (low_in a c p r)))
    (λ e.
    by_eq
    (λ t. IsWithin
    (if nat_lt a.1 (sign_bit extension) then a else whole_range (extension_width extension))
    (if t then single_range (sign_extension extension c.0)
    else if nat_lt c.1 (sign_bit extension) then c
    else whole_range (extension_width extension)))
    c.0 c.1
    (λ f. absurd (e (omega (arith, p.in_order))))
    (λ f.
    by_lt
    (λ t. IsWithin
    (if t then a else whole_range (extension_width extension))
    (if nat_lt c.1 (sign_bit extension) then c else whole_range (extension_width extension)))
    a.1 (sign_bit extension)
    (λ h.
    by_lt (λ t. IsWithin a (if t then c else whole_range (extension_width extension))) c.1 (sign_bit extension)
    (λ g. r)
    (λ g. in_whole (extension_width extension) a (omega (arith, sign_less extension))))
    (λ h.
    by_lt (λ t. IsWithin (whole_range (extension_width extension)) (if t then c else whole_range (extension_width extension))) c.1 (sign_bit extension)
    (λ g. absurd (omega arith))
    (λ g. within_same (whole_range (extension_width extension))))))

pub byte_swap_grows : ByteSwapGrows
byte_swap_grows swap bits a c p r =
    by_eq (λ t. IsWithin (if t then single_range (swapped_bytes swap bits a.0) else (0, greatest_number bits)) (swapped_range swap bits c)) a.0 a.1
    (λ e. only_in _ _ (byte_swap_fits swap bits c a.0 (low_in a c p r)))
    (λ e.
    by_eq (λ t. IsWithin (0, greatest_number bits) (if t then single_range (swapped_bytes swap bits c.0) else (0, greatest_number bits))) c.0 c.1
    (λ f. absurd (e (omega (arith, p.in_order))))
    (λ f. within_same (0, greatest_number bits)))
