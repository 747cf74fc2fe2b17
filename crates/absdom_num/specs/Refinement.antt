-- What a comparison says of its operands on each of its two edges (a choice of this project).
use Rattle.std.specs.Prelude.{ℕ, ◌+◌, ◌-◌, ◌&&◌, ◌==◌, nat_lt, nat_le, if◌then◌else◌, min, max, Option, Some, None}
use Rattle.bpf_parts.specs.declared.operation.Width.{Width}
use Rattle.bpf_parts.specs.declared.operation.Condition.{Condition}
use Rattle.bpf_parts.specs.declared.operation.Condition.TheVariants.{Equal, Greater, GreaterEqual, AnyBits, NotEqual}
use Rattle.bpf_parts.specs.declared.operation.Condition.TheVariants.{SignedGreater, SignedGreaterEqual, Less}
use Rattle.bpf_parts.specs.declared.operation.Condition.TheVariants.{LessEqual, SignedLess, SignedLessEqual}
use Rattle.machine.specs.Words.{modulus}
use Rattle.absdom_num.specs.declared.ranges.Range.{Range}
use Rattle.absdom_num.specs.declared.refinement.Operands.{Operands}
use Rattle.absdom_num.specs.declared.refinement.Edges.{Edges}
use Rattle.absdom_num.specs.Tables.{is_single, sign_weight}

-- ---- the statement

-- the new ranges. An edge with an empty range is not followed
abbrev pub edge : Range → Range → Option Operands
edge a b =
    if nat_le a.0 a.1 && nat_le b.0 b.1 then Some (record { dst = a; src = b }) else None

-- a range without the number n, if n is one of its ends
abbrev pub range_without : Range → ℕ → Range
range_without a n =
    if a.0 == n then (a.0 + 1, a.1)
    else if a.1 == n then (a.0, a.1 - 1)
    else a

-- if the other range is one number, it moves an end
abbrev pub range_apart : Range → Range → Range
range_apart a b = if is_single b then range_without a b.0 else a

-- `a = b`: the common part
abbrev pub when_equal : Range → Range → Option Operands
when_equal a b = edge (max a.0 b.0, min a.1 b.1) (max a.0 b.0, min a.1 b.1)

-- `a` is not `b`
abbrev pub when_not_equal : Range → Range → Option Operands
when_not_equal a b = edge (range_apart a b) (range_apart b a)

-- `a < b`
abbrev pub when_less : Range → Range → Option Operands
when_less a b = edge (a.0, min a.1 (b.1 - 1)) (max b.0 (a.0 + 1), b.1)

-- `a <= b`
abbrev pub when_at_most : Range → Range → Option Operands
when_at_most a b = edge (a.0, min a.1 b.1) (max b.0 a.0, b.1)

-- `a > b`: as `b < a`
abbrev pub when_greater : Range → Range → Option Operands
when_greater a b = edge (max a.0 (b.0 + 1), a.1) (b.0, min b.1 (a.1 - 1))

-- `a >= b`: as `b <= a`
abbrev pub when_at_least : Range → Range → Option Operands
when_at_least a b = edge (max a.0 b.0, a.1) (b.0, min b.1 a.1)

-- the edge on which a comparison holds
abbrev pub when_taken : Condition → Range → Range → Option Operands
when_taken Equal a b = when_equal a b
when_taken Greater a b = when_greater a b
when_taken GreaterEqual a b = when_at_least a b
when_taken AnyBits a b = Some (record { dst = a; src = b })
when_taken NotEqual a b = when_not_equal a b
when_taken SignedGreater a b = when_greater a b
when_taken SignedGreaterEqual a b = when_at_least a b
when_taken Less a b = when_less a b
when_taken LessEqual a b = when_at_most a b
when_taken SignedLess a b = when_less a b
when_taken SignedLessEqual a b = when_at_most a b

-- the edge on which it does not
abbrev pub when_not_taken : Condition → Range → Range → Option Operands
when_not_taken Equal a b = when_not_equal a b
when_not_taken Greater a b = when_at_most a b
when_not_taken GreaterEqual a b = when_less a b
when_not_taken AnyBits a b = Some (record { dst = a; src = b })
when_not_taken NotEqual a b = when_equal a b
when_not_taken SignedGreater a b = when_at_most a b
when_not_taken SignedGreaterEqual a b = when_less a b
when_not_taken Less a b = when_at_least a b
when_not_taken LessEqual a b = when_greater a b
when_not_taken SignedLess a b = when_at_least a b
when_not_taken SignedLessEqual a b = when_greater a b

-- both operands must lie below this number: there a comparison of that width compares them whole, and a signed one as
-- an unsigned one
abbrev pub reach : Condition → Width → ℕ
reach SignedGreater width = sign_weight width
reach SignedGreaterEqual width = sign_weight width
reach SignedLess width = sign_weight width
reach SignedLessEqual width = sign_weight width
reach Equal width = modulus width
reach Greater width = modulus width
reach GreaterEqual width = modulus width
reach AnyBits width = modulus width
reach NotEqual width = modulus width
reach Less width = modulus width
reach LessEqual width = modulus width

-- both edges with the ranges as they were
abbrev pub unrefined_ranges : Range → Range → Edges
unrefined_ranges a b =
    record { taken = Some (record { dst = a; src = b }); not_taken = Some (record { dst = a; src = b }) }

-- the ranges on the two edges. If nothing is refined, both edges keep them
abbrev pub refined_ranges : Condition → Width → Range → Range → Edges
refined_ranges condition width a b =
    if nat_lt a.1 (reach condition width) && nat_lt b.1 (reach condition width)
    then record { taken = when_taken condition a b; not_taken = when_not_taken condition a b }
    else unrefined_ranges a b

-- ---- what else contracts and proofs say

-- a range that is not empty
abbrev pub nonempty_range : Range → Option Range
nonempty_range a = if nat_le a.0 a.1 then Some a else None
