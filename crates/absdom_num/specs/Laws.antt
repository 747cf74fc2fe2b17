-- Laws of the tables.
use Rattle.std.specs.Prelude.{◌≡◌, ℕ, ◌-◌, ◌^◌, ◌<◌, ◌≤◌, Bool, true, false, Option, Some, None}
use Rattle.bpf_parts.specs.declared.operation.Width.{Width}
use Rattle.bpf_parts.specs.declared.operation.AluOp.{AluOp}
use Rattle.bpf_parts.specs.declared.operation.Condition.{Condition}
use Rattle.bpf_parts.specs.declared.operation.Extension.{Extension}
use Rattle.bpf_parts.specs.declared.operation.Swap.{Swap}
use Rattle.bpf_parts.specs.declared.operation.SwapBits.{SwapBits}
use Rattle.machine.specs.Words.{alu_words, negation, sign_extension, swapped_bytes, holds_words}
use Rattle.absdom_num.specs.declared.ranges.Range.{Range}
use Rattle.absdom_num.specs.declared.refinement.Operands.{Operands}
use Rattle.absdom_num.specs.declared.refinement.Edges.{Edges}
use Rattle.absdom_num.specs.Ranges.{IsRange, IsIn, IsWithin, joined_ranges}
use Rattle.absdom_num.specs.Tables.{ones_over, alu_range, negated_range, extended_range, swapped_range}
use Rattle.absdom_num.specs.Refinement.{refined_ranges, unrefined_ranges}

-- every result of numbers in the operands' ranges lies in the result's range
abbrev pub AluFits : Type 0
AluFits =
    (op : AluOp) (width : Width) (a b : Range) (n m : ℕ) → IsIn n a → IsIn m b
    → IsIn (alu_words op width n m) (alu_range op width a b)

-- NEG: every result of a number in the range lies in the result's range
abbrev pub NegateFits : Type 0
NegateFits =
    (width : Width) (a : Range) (n : ℕ) → IsIn n a → IsIn (negation width n) (negated_range width a)

-- MOVSX: every result of a number in the range lies in the result's range
abbrev pub MoveSignedFits : Type 0
MoveSignedFits =
    (extension : Extension) (a : Range) (n : ℕ) → IsIn n a
    → IsIn (sign_extension extension n) (extended_range extension a)

-- END: every result of a number in the range lies in the result's range
abbrev pub ByteSwapFits : Type 0
ByteSwapFits =
    (swap : Swap) (bits : SwapBits) (a : Range) (n : ℕ) → IsIn n a
    → IsIn (swapped_bytes swap bits n) (swapped_range swap bits a)

-- the edge that is followed if a comparison is true, and if it is false
abbrev pub followed_edge : Bool → Edges → Option Operands
followed_edge true edges = edges.taken
followed_edge false edges = edges.not_taken

-- the numbers lie in an edge's ranges. If the edge is not followed, none do
abbrev pub AreIn : ℕ → ℕ → Option Operands → Type 0
AreIn n m None = ⊥
AreIn n m (Some operands) = IsIn n operands.dst × IsIn m operands.src

-- numbers in the operands' ranges lie in the ranges of the edge that they take
abbrev pub RefineFits : Type 0
RefineFits =
    (condition : Condition) (width : Width) (a b : Range) (n m : ℕ) → IsIn n a → IsIn m b
    → AreIn n m (followed_edge (holds_words condition width n m) (refined_ranges condition width a b))

-- larger operands give results that are at least as large
abbrev pub AluGrows : Type 0
AluGrows =
    (op : AluOp) (width : Width) (a b c d : Range) → IsRange a → IsRange b → IsWithin a c → IsWithin b d
    → IsWithin (alu_range op width a b) (alu_range op width c d)

-- NEG: a larger range gives a result that is at least as large
abbrev pub NegateGrows : Type 0
NegateGrows =
    (width : Width) (a c : Range) → IsRange a → IsWithin a c
    → IsWithin (negated_range width a) (negated_range width c)

-- MOVSX: a larger range gives a result that is at least as large
abbrev pub MoveSignedGrows : Type 0
MoveSignedGrows =
    (extension : Extension) (a c : Range) → IsRange a → IsWithin a c
    → IsWithin (extended_range extension a) (extended_range extension c)

-- END: a larger range gives a result that is at least as large
abbrev pub ByteSwapGrows : Type 0
ByteSwapGrows =
    (swap : Swap) (bits : SwapBits) (a c : Range) → IsRange a → IsWithin a c
    → IsWithin (swapped_range swap bits a) (swapped_range swap bits c)

-- if one edge is followed, the other is too, with ranges at least as large
abbrev pub IsBelow : Option Operands → Option Operands → Type 0
IsBelow None other = Unit {0}
IsBelow (Some operands) None = ⊥
IsBelow (Some operands) (Some other) = IsWithin operands.dst other.dst × IsWithin operands.src other.src

-- if an edge of the first is followed, so is that of the others, with ranges at least as large
pub record AreBelow (edges others : Edges) : Type 0 where
  pub taken : IsBelow edges.taken others.taken
  pub not_taken : IsBelow edges.not_taken others.not_taken

-- larger operands give edges that are at least as large
abbrev pub RefineGrows : Type 0
RefineGrows =
    (condition : Condition) (width : Width) (a b c d : Range) → IsRange a → IsRange b → IsWithin a c → IsWithin b d
    → AreBelow (refined_ranges condition width a b) (refined_ranges condition width c d)

-- refinement only shrinks: an edge leads only to ranges inside the operands'
abbrev pub RefineShrinks : Type 0
RefineShrinks =
    (condition : Condition) (width : Width) (a b : Range)
    → AreBelow (refined_ranges condition width a b) (unrefined_ranges a b)

-- containment is an order
abbrev pub IsOrder : Type 0
IsOrder =
    ((a : Range) → IsWithin a a)
    × ((a b c : Range) → IsWithin a b → IsWithin b c → IsWithin a c)
    × ((a b : Range) → IsWithin a b → IsWithin b a → a ≡ b)

-- a number in a range is in each larger one
abbrev pub IsSound : Type 0
IsSound = (a b : Range) (n : ℕ) → IsWithin a b → IsIn n a → IsIn n b

-- the join is the least range above both
abbrev pub IsJoin : Type 0
IsJoin =
    (a b c : Range) → IsWithin a (joined_ranges a b) × IsWithin b (joined_ranges a b)
    × (IsWithin a c → IsWithin b c → IsWithin (joined_ranges a b) c)

-- the bound of OR and XOR is of the form 2^k - 1, at least the number, and no such number is less
abbrev pub IsLeastOnes : Type 0
IsLeastOnes =
    (n : ℕ) → n < 2 ^ 64
    → ((k : ℕ) × (ones_over n ≡ 2 ^ k - 1)) × (n ≤ ones_over n)
    × ((k : ℕ) → n ≤ 2 ^ k - 1 → ones_over n ≤ 2 ^ k - 1)
