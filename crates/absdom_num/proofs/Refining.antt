-- Numbers in the operands' ranges lie in the ranges of the edge that they take.
use Rattle.std.proofs.Common.{ℕ, ◌≡◌, ◌+◌, ◌-◌, ◌<◌, ◌≤◌, pos, Bool, true, false, not, ◌&&◌, min, max, Some, None, sym, ap₂, subst, refl, arith}
use Rattle.std.specs.Prelude.{◌==◌, nat_lt, nat_le, int_lt, int_le, if◌then◌else◌, bit_and}
use Rattle.std.proofs.Math.Nat.{mod-eq_of_lt}
use Rattle.bpf_parts.specs.declared.operation.Width.{Width}
use Rattle.bpf_parts.specs.declared.operation.Width.TheVariants.{Bits32, Bits64}
use Rattle.bpf_parts.specs.declared.operation.Condition.{Condition}
use Rattle.bpf_parts.specs.declared.operation.Condition.TheVariants.{Equal, Greater, GreaterEqual, AnyBits, NotEqual, SignedGreater, SignedGreaterEqual, Less, LessEqual, SignedLess, SignedLessEqual}
use Rattle.machine.specs.Words.{modulus, low_part, signed_value, holds_words}
use Rattle.absdom_num.specs.declared.ranges.Range.{Range}
use Rattle.absdom_num.specs.declared.refinement.Edges.{Edges}
use Rattle.absdom_num.specs.Ranges.{IsIn}
use Rattle.absdom_num.specs.Tables.{sign_weight}
use Rattle.absdom_num.specs.Refinement.{edge, range_without, range_apart, when_equal, when_not_equal, when_less, when_at_most, when_greater, when_at_least, when_taken, when_not_taken, reach, refined_ranges}
use Rattle.absdom_num.specs.Laws.{followed_edge, AreIn}
use Rattle.lemmas.proofs.Cases.{by_test, by_lt, by_le, by_eq}
use Rattle.absdom_num.proofs.Fits.{signed_small, half_less}

edge_fits : (a b : Range) (n m : ℕ) → IsIn n a → IsIn m b → AreIn n m (edge a b)
edge_fits a b n m p q =
    by_le (λ t. AreIn n m (if t && nat_le b.0 b.1 then Some (record { dst = a; src = b }) else None)) a.0 a.1
    (λ h.
    by_le (λ t. AreIn n m (if t then Some (record { dst = a; src = b }) else None)) b.0 b.1
    (λ g. (p, q))
    (λ g. omega arith))
    (λ h. omega arith)

equal_fits : (a b : Range) (n m : ℕ) → IsIn n a → IsIn m b → n ≡ m → AreIn n m (when_equal a b)
equal_fits a b n m p q e =
    edge_fits (max a.0 b.0, min a.1 b.1) (max a.0 b.0, min a.1 b.1) n m
    (record { above = omega arith; below = omega arith; word = p.word })
    (record { above = omega arith; below = omega arith; word = q.word })

without_fits : (a : Range) (n m : ℕ) → IsIn n a → (n ≡ m → ⊥) → IsIn n (range_without a m)
without_fits a n m p d =
    by_eq (λ t. IsIn n (if t then (a.0 + 1, a.1) else if a.1 == m then (a.0, a.1 - 1) else a)) a.0 m
    (λ e. record { above = omega arith; below = p.below; word = p.word })
    (λ e.
    by_eq (λ t. IsIn n (if t then (a.0, a.1 - 1) else a)) a.1 m
    (λ f. record { above = p.above; below = omega arith; word = p.word })
    (λ f. p))

apart_fits : (a b : Range) (n m : ℕ) → IsIn n a → IsIn m b → (n ≡ m → ⊥) → IsIn n (range_apart a b)
apart_fits a b n m p q d =
    by_eq (λ t. IsIn n (if t then range_without a b.0 else a)) b.0 b.1
    (λ e. without_fits a n b.0 p (λ f. d (omega arith)))
    (λ e. p)

not_equal_fits : (a b : Range) (n m : ℕ) → IsIn n a → IsIn m b → (n ≡ m → ⊥) → AreIn n m (when_not_equal a b)
not_equal_fits a b n m p q d =
    edge_fits (range_apart a b) (range_apart b a) n m (apart_fits a b n m p q d) (apart_fits b a m n q p (λ e. d (sym e)))

less_fits : (a b : Range) (n m : ℕ) → IsIn n a → IsIn m b → n < m → AreIn n m (when_less a b)
less_fits a b n m p q h =
    edge_fits (a.0, min a.1 (b.1 - 1)) (max b.0 (a.0 + 1), b.1) n m
    (record { above = p.above; below = omega arith; word = p.word })
    (record { above = omega arith; below = q.below; word = q.word })

at_most_fits : (a b : Range) (n m : ℕ) → IsIn n a → IsIn m b → n ≤ m → AreIn n m (when_at_most a b)
at_most_fits a b n m p q h =
    edge_fits (a.0, min a.1 b.1) (max b.0 a.0, b.1) n m
    (record { above = p.above; below = omega arith; word = p.word })
    (record { above = omega arith; below = q.below; word = q.word })

greater_fits : (a b : Range) (n m : ℕ) → IsIn n a → IsIn m b → m < n → AreIn n m (when_greater a b)
greater_fits a b n m p q h =
    edge_fits (max a.0 (b.0 + 1), a.1) (b.0, min b.1 (a.1 - 1)) n m
    (record { above = omega arith; below = p.below; word = p.word })
    (record { above = q.above; below = omega arith; word = q.word })

at_least_fits : (a b : Range) (n m : ℕ) → IsIn n a → IsIn m b → m ≤ n → AreIn n m (when_at_least a b)
at_least_fits a b n m p q h =
    edge_fits (max a.0 b.0, a.1) (b.0, min b.1 a.1) n m
    (record { above = omega arith; below = p.below; word = p.word })
    (record { above = q.above; below = omega arith; word = q.word })

-- a comparison of numbers as they are
abbrev pub compares : Condition → ℕ → ℕ → Bool
compares Equal n m = n == m
compares Greater n m = nat_lt m n
compares GreaterEqual n m = nat_le m n
compares AnyBits n m = not (bit_and n m == 0)
compares NotEqual n m = not (n == m)
compares SignedGreater n m = nat_lt m n
compares SignedGreaterEqual n m = nat_le m n
compares Less n m = nat_lt n m
compares LessEqual n m = nat_le n m
compares SignedLess n m = nat_lt n m
compares SignedLessEqual n m = nat_le n m

low_same : (width : Width) (n : ℕ) → n < modulus width → low_part width n ≡ n
low_same Bits32 n h = mod-eq_of_lt h
low_same Bits64 n h = refl

below_half : (width : Width) (n : ℕ) → n < sign_weight width → low_part width n ≡ n
below_half width n h = low_same width n (omega (arith, half_less width))

signed_low : (width : Width) (n : ℕ) → n < sign_weight width → signed_value width (low_part width n) ≡ pos n
signed_low width n h = rw (below_half width n h) (signed_small width n h)

-- within reach a comparison compares the operands whole and unsigned
plain : (condition : Condition) (width : Width) (n m : ℕ) → n < reach condition width → m < reach condition width → holds_words condition width n m ≡ compares condition n m
plain Equal width n m p q = ap₂ (λ x y. x == y) (low_same width n p) (low_same width m q)
plain Greater width n m p q = ap₂ (λ x y. nat_lt y x) (low_same width n p) (low_same width m q)
plain GreaterEqual width n m p q = ap₂ (λ x y. nat_le y x) (low_same width n p) (low_same width m q)
plain AnyBits width n m p q = ap₂ (λ x y. not (bit_and x y == 0)) (low_same width n p) (low_same width m q)
plain NotEqual width n m p q = ap₂ (λ x y. not (x == y)) (low_same width n p) (low_same width m q)
plain SignedGreater width n m p q = ap₂ (λ x y. int_lt y x) (signed_low width n p) (signed_low width m q)
plain SignedGreaterEqual width n m p q = ap₂ (λ x y. int_le y x) (signed_low width n p) (signed_low width m q)
plain Less width n m p q = ap₂ (λ x y. nat_lt x y) (low_same width n p) (low_same width m q)
plain LessEqual width n m p q = ap₂ (λ x y. nat_le x y) (low_same width n p) (low_same width m q)
plain SignedLess width n m p q = ap₂ (λ x y. int_lt x y) (signed_low width n p) (signed_low width m q)
plain SignedLessEqual width n m p q = ap₂ (λ x y. int_le x y) (signed_low width n p) (signed_low width m q)

-- both edges of a comparison that is refined
abbrev pub both : Condition → Range → Range → Edges
both condition a b = record { taken = when_taken condition a b; not_taken = when_not_taken condition a b }

both_fit : (condition : Condition) (a b : Range) (n m : ℕ) → IsIn n a → IsIn m b → AreIn n m (followed_edge (compares condition n m) (both condition a b))
both_fit Equal a b n m p q =
    by_eq (λ t. AreIn n m (followed_edge t (both Equal a b))) n m (λ h. equal_fits a b n m p q h) (λ h. not_equal_fits a b n m p q h)
both_fit Greater a b n m p q =
    by_lt (λ t. AreIn n m (followed_edge t (both Greater a b))) m n (λ h. greater_fits a b n m p q h) (λ h. at_most_fits a b n m p q h)
both_fit GreaterEqual a b n m p q =
    by_le (λ t. AreIn n m (followed_edge t (both GreaterEqual a b))) m n (λ h. at_least_fits a b n m p q h) (λ h. less_fits a b n m p q h)
both_fit AnyBits a b n m p q =
    by_test (λ t. AreIn n m (followed_edge t (both AnyBits a b))) (not (bit_and n m == 0)) (λ h. (p, q)) (λ h. (p, q))
both_fit NotEqual a b n m p q =
    by_eq (λ t. AreIn n m (followed_edge (not t) (both NotEqual a b))) n m (λ h. equal_fits a b n m p q h) (λ h. not_equal_fits a b n m p q h)
both_fit SignedGreater a b n m p q =
    by_lt (λ t. AreIn n m (followed_edge t (both SignedGreater a b))) m n (λ h. greater_fits a b n m p q h) (λ h. at_most_fits a b n m p q h)
both_fit SignedGreaterEqual a b n m p q =
    by_le (λ t. AreIn n m (followed_edge t (both SignedGreaterEqual a b))) m n (λ h. at_least_fits a b n m p q h) (λ h. less_fits a b n m p q h)
both_fit Less a b n m p q =
    by_lt (λ t. AreIn n m (followed_edge t (both Less a b))) n m (λ h. less_fits a b n m p q h) (λ h. at_least_fits a b n m p q h)
both_fit LessEqual a b n m p q =
    by_le (λ t. AreIn n m (followed_edge t (both LessEqual a b))) n m (λ h. at_most_fits a b n m p q h) (λ h. greater_fits a b n m p q h)
both_fit SignedLess a b n m p q =
    by_lt (λ t. AreIn n m (followed_edge t (both SignedLess a b))) n m (λ h. less_fits a b n m p q h) (λ h. at_least_fits a b n m p q h)
both_fit SignedLessEqual a b n m p q =
    by_le (λ t. AreIn n m (followed_edge t (both SignedLessEqual a b))) n m (λ h. at_most_fits a b n m p q h) (λ h. greater_fits a b n m p q h)

-- if nothing is refined
abbrev pub same : Range → Range → Edges
same a b = record { taken = Some (record { dst = a; src = b }); not_taken = Some (record { dst = a; src = b }) }

same_fit : (t : Bool) (a b : Range) (n m : ℕ) → IsIn n a → IsIn m b → AreIn n m (followed_edge t (same a b))
same_fit true a b n m p q = (p, q)
same_fit false a b n m p q = (p, q)

pub refine_fits : (condition : Condition) (width : Width) (a b : Range) (n m : ℕ) → IsIn n a → IsIn m b → AreIn n m (followed_edge (holds_words condition width n m) (refined_ranges condition width a b))
refine_fits condition width a b n m p q =
    by_lt
    (λ t. AreIn n m (followed_edge (holds_words condition width n m)
    (if t && nat_lt b.1 (reach condition width) then both condition a b else same a b)))
    a.1 (reach condition width)
    (λ h.
    by_lt
    (λ t. AreIn n m (followed_edge (holds_words condition width n m) (if t then both condition a b else same a b)))
    b.1 (reach condition width)
    (λ g.
    let e : holds_words condition width n m ≡ compares condition n m =
    plain condition width n m (omega arith) (omega arith) in
    subst (λ t. AreIn n m (followed_edge t (both condition a b))) (sym e) (both_fit condition a b n m p q))
    (λ g. same_fit (holds_words condition width n m) a b n m p q))
    (λ h. same_fit (holds_words condition width n m) a b n m p q)
