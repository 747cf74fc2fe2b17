-- If smaller operands follow an edge, larger ones do too, to ranges that are at least as large.
use Rattle.std.proofs.Common.{ℕ, ◌≡◌, ◌+◌, ◌-◌, ◌<◌, ◌≤◌, ◌&&◌, min, max, Option, Some, None, sym, subst, ⊎_elim, arith}
use Rattle.std.specs.Prelude.{◌==◌, nat_lt, nat_le, if◌then◌else◌}
use Rattle.std.proofs.lemmas.Bool.{cases_eq}
use Rattle.bpf_parts.specs.declared.operation.Width.{Width}
use Rattle.bpf_parts.specs.declared.operation.Condition.{Condition}
use Rattle.bpf_parts.specs.declared.operation.Condition.TheVariants.{Equal, Greater, GreaterEqual, AnyBits, NotEqual, SignedGreater, SignedGreaterEqual, Less, LessEqual, SignedLess, SignedLessEqual}
use Rattle.absdom_num.specs.declared.ranges.Range.{Range}
use Rattle.absdom_num.specs.declared.refinement.Operands.{Operands}
use Rattle.absdom_num.specs.Ranges.{IsWithin}
use Rattle.absdom_num.specs.Refinement.{edge, range_without, range_apart, when_equal, when_not_equal, when_less, when_at_most, when_greater, when_at_least, when_taken, when_not_taken, reach, refined_ranges}
use Rattle.absdom_num.specs.Laws.{IsBelow, AreBelow, RefineGrows, RefineShrinks}
use Rattle.lemmas.proofs.Cases.{by_lt, by_le, by_eq}
use Rattle.absdom_num.proofs.Order.{within_same, only_within}
use Rattle.absdom_num.proofs.Refining.{both, same}

-- operands that are in order, in larger ones
pub record Pair (a b c d : Range) : Type 0 where
  pub a_order : a.0 ≤ a.1
  pub b_order : b.0 ≤ b.1
  pub a_in : IsWithin a c
  pub b_in : IsWithin b d

-- an edge of ranges that are in order: the others are, and contain them
edge_grows : (a b c d : Range) → (a.0 ≤ a.1 → b.0 ≤ b.1 → IsWithin a c) → (a.0 ≤ a.1 → b.0 ≤ b.1 → IsWithin b d) → IsBelow (edge a b) (edge c d)
edge_grows a b c d r s =
    by_le (λ t. IsBelow (if t && nat_le b.0 b.1 then Some (record { dst = a; src = b }) else None) (edge c d)) a.0 a.1
    (λ h.
    by_le (λ t. IsBelow (if t then Some (record { dst = a; src = b }) else None) (edge c d)) b.0 b.1
    (λ g.
    let u = r h g in
    let v = s h g in
    by_le
    (λ t. IsBelow (Some (record { dst = a; src = b })) (if t && nat_le d.0 d.1 then Some (record { dst = c; src = d }) else None))
    c.0 c.1
    (λ f.
    by_le
    (λ t. IsBelow (Some (record { dst = a; src = b })) (if t then Some (record { dst = c; src = d }) else None))
    d.0 d.1
    (λ e. (u, v))
    (λ e. absurd (omega arith)))
    (λ f. absurd (omega arith)))
    (λ g. tt))
    (λ h. tt)

equal_grows : (a b c d : Range) → Pair a b c d → IsBelow (when_equal a b) (when_equal c d)
equal_grows a b c d p =
    edge_grows (max a.0 b.0, min a.1 b.1) (max a.0 b.0, min a.1 b.1) (max c.0 d.0, min c.1 d.1) (max c.0 d.0, min c.1 d.1)
    (λ h g. record { above = omega arith; below = omega arith })
    (λ h g. record { above = omega arith; below = omega arith })

without_in : (a c : Range) (n : ℕ) → IsWithin a c → IsWithin (range_without a n) c
without_in a c n r =
    by_eq (λ t. IsWithin (if t then (a.0 + 1, a.1) else if a.1 == n then (a.0, a.1 - 1) else a) c) a.0 n
    (λ e. record { above = omega arith; below = r.below })
    (λ e.
    by_eq (λ t. IsWithin (if t then (a.0, a.1 - 1) else a) c) a.1 n
    (λ f. record { above = r.above; below = omega arith })
    (λ f. r))

without_grows : (a c : Range) (n : ℕ) → a.0 ≤ a.1 → IsWithin a c → (range_without a n).0 ≤ (range_without a n).1 → IsWithin (range_without a n) (range_without c n)
without_grows a c n o r =
    by_eq
    (λ t. (range_without a n).0 ≤ (range_without a n).1 → IsWithin (range_without a n) (if t then (c.0 + 1, c.1) else if c.1 == n then (c.0, c.1 - 1) else c))
    c.0 n
    (λ e.
    by_eq
    (λ t. (if t then (a.0 + 1, a.1) else if a.1 == n then (a.0, a.1 - 1) else a).0
    ≤ (if t then (a.0 + 1, a.1) else if a.1 == n then (a.0, a.1 - 1) else a).1
    → IsWithin (if t then (a.0 + 1, a.1) else if a.1 == n then (a.0, a.1 - 1) else a) (c.0 + 1, c.1))
    a.0 n
    (λ f h. record { above = omega arith; below = r.below })
    (λ f.
    by_eq
    (λ t. (if t then (a.0, a.1 - 1) else a).0 ≤ (if t then (a.0, a.1 - 1) else a).1
    → IsWithin (if t then (a.0, a.1 - 1) else a) (c.0 + 1, c.1))
    a.1 n
    (λ g h. absurd (f (omega arith)))
    (λ g h. record { above = omega arith; below = r.below })))
    (λ e.
    by_eq
    (λ t. (range_without a n).0 ≤ (range_without a n).1 → IsWithin (range_without a n) (if t then (c.0, c.1 - 1) else c))
    c.1 n
    (λ f.
    by_eq
    (λ t. (if t then (a.0 + 1, a.1) else if a.1 == n then (a.0, a.1 - 1) else a).0
    ≤ (if t then (a.0 + 1, a.1) else if a.1 == n then (a.0, a.1 - 1) else a).1
    → IsWithin (if t then (a.0 + 1, a.1) else if a.1 == n then (a.0, a.1 - 1) else a) (c.0, c.1 - 1))
    a.0 n
    (λ g h. absurd (omega arith))
    (λ g.
    by_eq
    (λ t. (if t then (a.0, a.1 - 1) else a).0 ≤ (if t then (a.0, a.1 - 1) else a).1
    → IsWithin (if t then (a.0, a.1 - 1) else a) (c.0, c.1 - 1))
    a.1 n
    (λ i h. record { above = r.above; below = omega arith })
    (λ i h. record { above = r.above; below = omega arith })))
    (λ f h. without_in a c n r))

apart_in : (a b c : Range) → IsWithin a c → IsWithin (range_apart a b) c
apart_in a b c r =
    by_eq (λ t. IsWithin (if t then range_without a b.0 else a) c) b.0 b.1
    (λ e. without_in a c b.0 r)
    (λ e. r)

-- from the one number that both have
apart_grows_at : (a c d : Range) → a.0 ≤ a.1 → IsWithin a c → d.0 ≡ d.1 → (range_apart a d).0 ≤ (range_apart a d).1 → IsWithin (range_apart a d) (range_apart c d)
apart_grows_at a c d o r s =
    by_eq
    (λ t. (if t then range_without a d.0 else a).0 ≤ (if t then range_without a d.0 else a).1
    → IsWithin (if t then range_without a d.0 else a) (if t then range_without c d.0 else c))
    d.0 d.1
    (λ e. without_grows a c d.0 o r)
    (λ e. absurd (e s))

apart_grows : (a b c d : Range) → a.0 ≤ a.1 → b.0 ≤ b.1 → IsWithin a c → IsWithin b d → (range_apart a b).0 ≤ (range_apart a b).1 → IsWithin (range_apart a b) (range_apart c d)
apart_grows a b c d o u r s =
    ⊎_elim
    (λ e.
    subst (λ x. (range_apart a x).0 ≤ (range_apart a x).1 → IsWithin (range_apart a x) (range_apart c d)) (sym (only_within b d u e s))
    (apart_grows_at a c d o r e))
    (λ e h.
    by_eq (λ t. IsWithin (range_apart a b) (if t then range_without c d.0 else c)) d.0 d.1
    (λ f. absurd (e f))
    (λ f. apart_in a b c r))
    (cases_eq d.0 d.1)

not_equal_grows : (a b c d : Range) → Pair a b c d → IsBelow (when_not_equal a b) (when_not_equal c d)
not_equal_grows a b c d p =
    edge_grows (range_apart a b) (range_apart b a) (range_apart c d) (range_apart d c)
    (λ h g. apart_grows a b c d p.a_order p.b_order p.a_in p.b_in h)
    (λ h g. apart_grows b a d c p.b_order p.a_order p.b_in p.a_in g)

less_grows : (a b c d : Range) → Pair a b c d → IsBelow (when_less a b) (when_less c d)
less_grows a b c d p =
    edge_grows (a.0, min a.1 (b.1 - 1)) (max b.0 (a.0 + 1), b.1) (c.0, min c.1 (d.1 - 1)) (max d.0 (c.0 + 1), d.1)
    (λ h g. record { above = omega arith; below = omega arith })
    (λ h g. record { above = omega arith; below = omega arith })

at_most_grows : (a b c d : Range) → Pair a b c d → IsBelow (when_at_most a b) (when_at_most c d)
at_most_grows a b c d p =
    edge_grows (a.0, min a.1 b.1) (max b.0 a.0, b.1) (c.0, min c.1 d.1) (max d.0 c.0, d.1)
    (λ h g. record { above = omega arith; below = omega arith })
    (λ h g. record { above = omega arith; below = omega arith })

greater_grows : (a b c d : Range) → Pair a b c d → IsBelow (when_greater a b) (when_greater c d)
greater_grows a b c d p =
    edge_grows (max a.0 (b.0 + 1), a.1) (b.0, min b.1 (a.1 - 1)) (max c.0 (d.0 + 1), c.1) (d.0, min d.1 (c.1 - 1))
    (λ h g. record { above = omega arith; below = omega arith })
    (λ h g. record { above = omega arith; below = omega arith })

at_least_grows : (a b c d : Range) → Pair a b c d → IsBelow (when_at_least a b) (when_at_least c d)
at_least_grows a b c d p =
    edge_grows (max a.0 b.0, a.1) (b.0, min b.1 a.1) (max c.0 d.0, c.1) (d.0, min d.1 c.1)
    (λ h g. record { above = omega arith; below = omega arith })
    (λ h g. record { above = omega arith; below = omega arith })

taken_grows : (condition : Condition) (a b c d : Range) → Pair a b c d → IsBelow (when_taken condition a b) (when_taken condition c d)
taken_grows Equal a b c d p = equal_grows a b c d p
taken_grows Greater a b c d p = greater_grows a b c d p
taken_grows GreaterEqual a b c d p = at_least_grows a b c d p
taken_grows AnyBits a b c d p = (p.a_in, p.b_in)
taken_grows NotEqual a b c d p = not_equal_grows a b c d p
taken_grows SignedGreater a b c d p = greater_grows a b c d p
taken_grows SignedGreaterEqual a b c d p = at_least_grows a b c d p
taken_grows Less a b c d p = less_grows a b c d p
taken_grows LessEqual a b c d p = at_most_grows a b c d p
taken_grows SignedLess a b c d p = less_grows a b c d p
taken_grows SignedLessEqual a b c d p = at_most_grows a b c d p

not_taken_grows : (condition : Condition) (a b c d : Range) → Pair a b c d → IsBelow (when_not_taken condition a b) (when_not_taken condition c d)
not_taken_grows Equal a b c d p = not_equal_grows a b c d p
not_taken_grows Greater a b c d p = at_most_grows a b c d p
not_taken_grows GreaterEqual a b c d p = less_grows a b c d p
not_taken_grows AnyBits a b c d p = (p.a_in, p.b_in)
not_taken_grows NotEqual a b c d p = equal_grows a b c d p
not_taken_grows SignedGreater a b c d p = at_most_grows a b c d p
not_taken_grows SignedGreaterEqual a b c d p = less_grows a b c d p
not_taken_grows Less a b c d p = at_least_grows a b c d p
not_taken_grows LessEqual a b c d p = greater_grows a b c d p
not_taken_grows SignedLess a b c d p = at_least_grows a b c d p
not_taken_grows SignedLessEqual a b c d p = greater_grows a b c d p

both_grow : (condition : Condition) (a b c d : Range) → Pair a b c d → AreBelow (both condition a b) (both condition c d)
both_grow condition a b c d p =
    record { taken = taken_grows condition a b c d p; not_taken = not_taken_grows condition a b c d p }

-- operands in larger ones
record Inside (a b c d : Range) : Type 0 where
  pub a_in : IsWithin a c
  pub b_in : IsWithin b d

-- an edge of ranges inside the operands
edge_in : (a b c d : Range) → IsWithin a c → IsWithin b d → IsBelow (edge a b) (Some (record { dst = c; src = d }))
edge_in a b c d r s =
    by_le (λ t. IsBelow (if t && nat_le b.0 b.1 then Some (record { dst = a; src = b }) else None) (Some (record { dst = c; src = d }))) a.0 a.1
    (λ h.
    by_le (λ t. IsBelow (if t then Some (record { dst = a; src = b }) else None) (Some (record { dst = c; src = d }))) b.0 b.1
    (λ g. (r, s))
    (λ g. tt))
    (λ h. tt)

abbrev InSame : Option Operands → Range → Range → Type 0
InSame o c d = IsBelow o (Some (record { dst = c; src = d }))

equal_in : (a b c d : Range) → Inside a b c d → InSame (when_equal a b) c d
equal_in a b c d p =
    edge_in (max a.0 b.0, min a.1 b.1) (max a.0 b.0, min a.1 b.1) c d
    (record { above = omega arith; below = omega arith }) (record { above = omega arith; below = omega arith })

not_equal_in : (a b c d : Range) → Inside a b c d → InSame (when_not_equal a b) c d
not_equal_in a b c d p = edge_in (range_apart a b) (range_apart b a) c d (apart_in a b c p.a_in) (apart_in b a d p.b_in)

less_in : (a b c d : Range) → Inside a b c d → InSame (when_less a b) c d
less_in a b c d p =
    edge_in (a.0, min a.1 (b.1 - 1)) (max b.0 (a.0 + 1), b.1) c d
    (record { above = omega arith; below = omega arith }) (record { above = omega arith; below = omega arith })

at_most_in : (a b c d : Range) → Inside a b c d → InSame (when_at_most a b) c d
at_most_in a b c d p =
    edge_in (a.0, min a.1 b.1) (max b.0 a.0, b.1) c d
    (record { above = omega arith; below = omega arith }) (record { above = omega arith; below = omega arith })

greater_in : (a b c d : Range) → Inside a b c d → InSame (when_greater a b) c d
greater_in a b c d p =
    edge_in (max a.0 (b.0 + 1), a.1) (b.0, min b.1 (a.1 - 1)) c d
    (record { above = omega arith; below = omega arith }) (record { above = omega arith; below = omega arith })

at_least_in : (a b c d : Range) → Inside a b c d → InSame (when_at_least a b) c d
at_least_in a b c d p =
    edge_in (max a.0 b.0, a.1) (b.0, min b.1 a.1) c d
    (record { above = omega arith; below = omega arith }) (record { above = omega arith; below = omega arith })

taken_in : (condition : Condition) (a b c d : Range) → Inside a b c d → InSame (when_taken condition a b) c d
taken_in Equal a b c d p = equal_in a b c d p
taken_in Greater a b c d p = greater_in a b c d p
taken_in GreaterEqual a b c d p = at_least_in a b c d p
taken_in AnyBits a b c d p = (p.a_in, p.b_in)
taken_in NotEqual a b c d p = not_equal_in a b c d p
taken_in SignedGreater a b c d p = greater_in a b c d p
taken_in SignedGreaterEqual a b c d p = at_least_in a b c d p
taken_in Less a b c d p = less_in a b c d p
taken_in LessEqual a b c d p = at_most_in a b c d p
taken_in SignedLess a b c d p = less_in a b c d p
taken_in SignedLessEqual a b c d p = at_most_in a b c d p

not_taken_in : (condition : Condition) (a b c d : Range) → Inside a b c d → InSame (when_not_taken condition a b) c d
not_taken_in Equal a b c d p = not_equal_in a b c d p
not_taken_in Greater a b c d p = at_most_in a b c d p
not_taken_in GreaterEqual a b c d p = less_in a b c d p
not_taken_in AnyBits a b c d p = (p.a_in, p.b_in)
not_taken_in NotEqual a b c d p = equal_in a b c d p
not_taken_in SignedGreater a b c d p = at_most_in a b c d p
not_taken_in SignedGreaterEqual a b c d p = less_in a b c d p
not_taken_in Less a b c d p = at_least_in a b c d p
not_taken_in LessEqual a b c d p = greater_in a b c d p
not_taken_in SignedLess a b c d p = at_least_in a b c d p
not_taken_in SignedLessEqual a b c d p = greater_in a b c d p

-- if the larger operands are not refined
refined_in : (condition : Condition) (width : Width) (a b c d : Range) → Inside a b c d → AreBelow (refined_ranges condition width a b) (same c d)
refined_in condition width a b c d p =
    by_lt
    (λ t. AreBelow (if t && nat_lt b.1 (reach condition width) then both condition a b else same a b) (same c d))
    a.1 (reach condition width)
    (λ h.
    by_lt (λ t. AreBelow (if t then both condition a b else same a b) (same c d)) b.1 (reach condition width)
    (λ g. record { taken = taken_in condition a b c d p; not_taken = not_taken_in condition a b c d p })
    (λ g. record { taken = (p.a_in, p.b_in); not_taken = (p.a_in, p.b_in) }))
    (λ h. record { taken = (p.a_in, p.b_in); not_taken = (p.a_in, p.b_in) })

-- if the larger operands are refined
refined_both : (condition : Condition) (width : Width) (a b c d : Range) → Pair a b c d → c.1 < reach condition width → d.1 < reach condition width → AreBelow (refined_ranges condition width a b) (both condition c d)
refined_both condition width a b c d p u v =
    by_lt
    (λ t. AreBelow (if t && nat_lt b.1 (reach condition width) then both condition a b else same a b) (both condition c d))
    a.1 (reach condition width)
    (λ h.
    by_lt (λ t. AreBelow (if t then both condition a b else same a b) (both condition c d)) b.1 (reach condition width)
    (λ g. both_grow condition a b c d p)
    (λ g. absurd (omega (arith, p.b_in))))
    (λ h. absurd (omega (arith, p.a_in)))

pub refine_shrinks : RefineShrinks
refine_shrinks condition width a b =
    refined_in condition width a b a b (record { a_in = within_same a; b_in = within_same b })

pub refine_grows : RefineGrows
refine_grows condition width a b c d o u r s =
    let p : Pair a b c d = record { a_order = o.in_order; b_order = u.in_order; a_in = r; b_in = s } in
    let q : Inside a b c d = record { a_in = r; b_in = s } in
    by_lt
    (λ t. AreBelow (refined_ranges condition width a b) (if t && nat_lt d.1 (reach condition width) then both condition c d else same c d))
    c.1 (reach condition width)
    (λ h.
    by_lt
    (λ t. AreBelow (refined_ranges condition width a b) (if t then both condition c d else same c d))
    d.1 (reach condition width)
    (λ g. refined_both condition width a b c d p h g)
    (λ g. refined_in condition width a b c d q))
    (λ h. refined_in condition width a b c d q)
