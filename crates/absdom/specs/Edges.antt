-- What is known on the two edges of a comparison (a choice of this project).
use Rattle.std.specs.Prelude.{ℕ, Bool, false, ◌==◌, if◌then◌else◌, Option, Some, None, Result, Ok, Err}
use Rattle.bpf_parts.specs.declared.operation.Width.{Width}
use Rattle.bpf_parts.specs.declared.operation.Condition.{Condition}
use Rattle.bpf_parts.specs.declared.operation.Operand.{Operand}
use Rattle.bpf_parts.specs.declared.operation.Operand.TheVariants.{FromRegister, Immediate}
use Rattle.machine.specs.Words.{word, low_part}
use Rattle.absdom_num.specs.declared.ranges.Range.{Range}
use Rattle.absdom_num.specs.declared.refinement.Operands.{Operands}
use Rattle.absdom_num.specs.declared.refinement.Edges.{Edges as RangeEdges}
use Rattle.absdom_num.specs.Tables.{single_range}
use Rattle.absdom_num.specs.Refinement.{refined_ranges}
use Rattle.absdom.specs.declared.cause.Cause.{Cause}
use Rattle.absdom.specs.declared.kinds.AbsKind.TheVariants.{Num}
use Rattle.absdom.specs.Kinds.{number_of}
use Rattle.absdom.specs.State.{StateValue, kind_at, with_kind}

-- ---- the statement

-- what is known on the two edges of a comparison: nothing is known on an edge that no run takes
pub record Edges : Type 0 where
  pub taken : Option StateValue
  pub not_taken : Option StateValue

-- the second operand of a comparison: an immediate counts by the bits that the comparison reads
abbrev pub compared_range : Width → StateValue → Operand → Result Range Cause
compared_range width a (FromRegister register) = number_of (kind_at a register)
compared_range width a (Immediate value) = Ok (single_range (low_part width (word value)))

-- the new range of a register; an immediate has none
abbrev pub with_source : StateValue → Operand → Range → StateValue
with_source a (FromRegister register) range = with_kind a register (Num range)
with_source a (Immediate value) range = a

-- the new ranges of both operands
abbrev pub with_operands : StateValue → (dst : ℕ) → Operand → Operands → StateValue
with_operands a dst src new = with_source (with_kind a dst (Num new.dst)) src new.src

-- what is known on an edge, which is not followed if a range is empty
abbrev pub edge_state : StateValue → (dst : ℕ) → Operand → Option Operands → Option StateValue
edge_state a dst src None = None
edge_state a dst src (Some new) = Some (with_operands a dst src new)

-- both edges with what was known before
abbrev pub unrefined_edges : StateValue → Edges
unrefined_edges a = record { taken = Some a; not_taken = Some a }

-- both edges with their new ranges
abbrev pub edge_states : StateValue → (dst : ℕ) → Operand → RangeEdges → Edges
edge_states a dst src new =
    record { taken = edge_state a dst src new.taken; not_taken = edge_state a dst src new.not_taken }

-- whether the second operand is that register itself
abbrev pub is_itself : (dst : ℕ) → Operand → Bool
is_itself dst (FromRegister register) = dst == register
is_itself dst (Immediate value) = false

-- a comparison of a register with itself refines nothing
abbrev pub edges_of : Condition → Width → StateValue → (dst : ℕ) → Operand → Range → Range → Edges
edges_of condition width a dst src left right =
    if is_itself dst src then unrefined_edges a else edge_states a dst src (refined_ranges condition width left right)

-- the edges of a comparison of two numbers
abbrev pub compared_edges : Condition → Width → StateValue → (dst : ℕ) → Operand → Result Range Cause
    → Result Range Cause → Result Edges Cause
compared_edges condition width a dst src (Err cause) right = Err cause
compared_edges condition width a dst src (Ok left) (Err cause) = Err cause
compared_edges condition width a dst src (Ok left) (Ok right) = Ok (edges_of condition width a dst src left right)

-- what is known on the edges of a comparison, or why it is refused
abbrev pub refined_edges : StateValue → Condition → Width → (dst : ℕ) → Operand → Result Edges Cause
refined_edges a condition width dst src =
    compared_edges condition width a dst src (number_of (kind_at a dst)) (compared_range width a src)

-- ---- what else contracts and proofs say

-- the ranges on both edges; a comparison of a register with itself leaves them as they are
abbrev pub ranges_of : Condition → Width → (dst : ℕ) → Operand → Range → Range → RangeEdges
ranges_of condition width dst src left right =
    if is_itself dst src
    then record {
      taken = Some (record { dst = left; src = right });
      not_taken = Some
          (record { dst = left; src = right });
    }
    else refined_ranges condition width left right

-- the ranges on the edges of a comparison of two numbers
abbrev pub compared_ranges : Condition → Width → (dst : ℕ) → Operand → Result Range Cause → Result Range Cause
    → Result RangeEdges Cause
compared_ranges condition width dst src (Err cause) right = Err cause
compared_ranges condition width dst src (Ok left) (Err cause) = Err cause
compared_ranges condition width dst src (Ok left) (Ok right) = Ok (ranges_of condition width dst src left right)

-- the ranges of the operands on the edges of a comparison, or why it is refused
abbrev pub refined_operands : StateValue → Condition → Width → (dst : ℕ) → Operand → Result RangeEdges Cause
refined_operands a condition width dst src =
    compared_ranges condition width dst src (number_of (kind_at a dst)) (compared_range width a src)
