-- Larger states give larger edges.
use Rattle.std.proofs.Common.{◌≡◌, ℕ, ◌^◌, ◌<◌, true, false, if◌then◌else◌, sym, ◌∙◌, arith, Option, Some, None, Result, Ok, Err, length, length-set}
use Rattle.bpf_parts.specs.declared.operation.Width.{Width}
use Rattle.bpf_parts.specs.declared.operation.Width.TheVariants.{Bits32, Bits64}
use Rattle.bpf_parts.specs.declared.operation.Condition.{Condition}
use Rattle.bpf_parts.specs.declared.operation.Operand.{Operand}
use Rattle.bpf_parts.specs.declared.operation.Operand.TheVariants.{FromRegister, Immediate}
use Rattle.machine.specs.Words.{word, low_part}
use Rattle.absdom_num.specs.declared.ranges.Range.{Range}
use Rattle.absdom_num.specs.declared.refinement.Operands.{Operands}
use Rattle.absdom_num.specs.Ranges.{IsRange, IsWithin}
use Rattle.absdom_num.specs.Refinement.{refined_ranges}
use Rattle.absdom_num.specs.Laws.{IsBelow as AreRangesBelow, RefineGrows as RangesGrow}
use Rattle.absdom.specs.declared.cause.Cause.{Cause}
use Rattle.absdom.specs.declared.kinds.AbsKind.{AbsKind}
use Rattle.absdom.specs.declared.kinds.AbsKind.TheVariants.{Unset, Num, Ptr, Map}
use Rattle.absdom.specs.Kinds.{number_of, IsKindBelow}
use Rattle.absdom.specs.State.{StateValue, IsStateBelow, kind_at, with_kind, IsProper, IsWhole}
use Rattle.absdom.specs.Edges.{compared_range, with_source, edge_state, edge_states, unrefined_edges, is_itself, edges_of, compared_edges}
use Rattle.absdom.specs.Laws.{StateRefineGrows, IsEdgeBelow, AreEdgesGrown}
use Rattle.absdom.proofs.FitsMemory.{word_below}
use Rattle.absdom.proofs.GrowState.{with_kind_grows}

-- the range of an operand in the smaller state lies in that of the larger, and its ends are in order
abbrev pub IsRangeGrown : (small large : Result Range Cause) → Type 0
IsRangeGrown small (Err cause) = Unit {0}
IsRangeGrown (Err cause) (Ok large) = ⊥
IsRangeGrown (Ok small) (Ok large) = IsRange small × IsWithin small large

number_grows : (p q : AbsKind) → IsProper p → IsKindBelow p q → IsRangeGrown (number_of p) (number_of q)
number_grows p Unset a h = tt
number_grows p (Ptr s x) a h = tt
number_grows p (Map j) a h = tt
number_grows Unset (Num c) a h = absurd h
number_grows (Num b) (Num c) a h = (a, h)
number_grows (Ptr r o) (Num c) a h = absurd h
number_grows (Map i) (Num c) a h = absurd h

low_below : (width : Width) (n : ℕ) → n < 2 ^ 64 → low_part width n < 2 ^ 64
low_below Bits32 n h = omega arith
low_below Bits64 n h = h

source_grows : (width : Width) (a b : StateValue) (src : Operand) → IsWhole a → IsStateBelow a b → IsRangeGrown (compared_range width a src) (compared_range width b src)
source_grows width a b (FromRegister r) p below = number_grows (kind_at a r) (kind_at b r) (p.kinds r) (below.kinds r)
source_grows width a b (Immediate z) p below =
    (record { in_order = omega arith; words = low_below width (word z) (word_below z) }, record { above = omega arith; below = omega arith })

with_source_grows : (a b : StateValue) (src : Operand) (x y : Range) → length a.kinds ≡ length b.kinds → IsWithin x y → IsStateBelow a b → IsStateBelow (with_source a src x) (with_source b src y)
with_source_grows a b (FromRegister r) x y e h below = with_kind_grows a b r (Num x) (Num y) e h below
with_source_grows a b (Immediate z) x y e h below = below

on_edge_grows : (a b : StateValue) (dst : ℕ) (src : Operand) (new old : Option Operands) → length a.kinds ≡ length b.kinds → AreRangesBelow new old → IsStateBelow a b → IsEdgeBelow (edge_state a dst src new) (edge_state b dst src old)
on_edge_grows a b dst src None old e h below = tt
on_edge_grows a b dst src (Some new) None e h below = absurd h
on_edge_grows a b dst src (Some new) (Some old) e h below =
    with_source_grows (with_kind a dst (Num new.dst)) (with_kind b dst (Num old.dst)) src new.src old.src
    (length-set a.kinds dst (Num new.dst) ∙ e ∙ sym (length-set b.kinds dst (Num old.dst))) h.1
    (with_kind_grows a b dst (Num new.dst) (Num old.dst) e h.0 below)

edges_grow : RangesGrow → (a b : StateValue) (condition : Condition) (width : Width) (dst : ℕ) (src : Operand) (l r l' r' : Range) → length a.kinds ≡ length b.kinds → IsStateBelow a b → IsRange l × IsWithin l l' → IsRange r × IsWithin r r' → AreEdgesGrown (Ok (edges_of condition width a dst src l r)) (Ok (edges_of condition width b dst src l' r'))
edges_grow ranges a b condition width dst src l r l' r' e below g h =
    elim (is_itself dst src) as (λ t. AreEdgesGrown (Ok (if t then unrefined_edges a else edge_states a dst src (refined_ranges condition width l r))) (Ok (if t then unrefined_edges b else edge_states b dst src (refined_ranges condition width l' r')))) [
      | true ↦ (below, below)
      | false ↦
          let grown = ranges condition width l r l' r' g.0 h.0 g.1 h.1 in (
            on_edge_grows a b dst src (refined_ranges condition width l r).taken (refined_ranges condition width l' r').taken e grown.taken below,
            on_edge_grows a b dst src (refined_ranges condition width l r).not_taken (refined_ranges condition width l' r').not_taken e grown.not_taken below,
          )
    ]

compared_grow : RangesGrow → (a b : StateValue) (condition : Condition) (width : Width) (dst : ℕ) (src : Operand) (l r l' r' : Result Range Cause) → length a.kinds ≡ length b.kinds → IsStateBelow a b → IsRangeGrown l l' → IsRangeGrown r r' → AreEdgesGrown (compared_edges condition width a dst src l r) (compared_edges condition width b dst src l' r')
compared_grow ranges a b condition width dst src l r (Err cause) r' e below g h = tt
compared_grow ranges a b condition width dst src (Err cause) r (Ok l') r' e below g h = absurd g
compared_grow ranges a b condition width dst src (Ok l) r (Ok l') (Err cause) e below g h = tt
compared_grow ranges a b condition width dst src (Ok l) (Err cause) (Ok l') (Ok r') e below g h = absurd h
compared_grow ranges a b condition width dst src (Ok l) (Ok r) (Ok l') (Ok r') e below g h =
    edges_grow ranges a b condition width dst src l r l' r' e below g h

pub refine_grows : RangesGrow → StateRefineGrows
refine_grows ranges a b condition width dst src p q below =
    compared_grow ranges a b condition width dst src (number_of (kind_at a dst)) (compared_range width a src) (number_of (kind_at b dst)) (compared_range width b src)
    (p.sizes.registers ∙ sym q.sizes.registers) below (number_grows (kind_at a dst) (kind_at b dst) (p.kinds dst) (below.kinds dst)) (source_grows width a b src p below)
