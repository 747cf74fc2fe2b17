-- The edges of a comparison from the ranges on them.
use Rattle.std.proofs.Common.{◌≡◌, ℕ, zero, suc, Bool, true, false, if◌then◌else◌, refl, sym, ◌∙◌, ap, Some, Ok, List, [], ◌∷◌, set}
use Rattle.bpf_parts.specs.declared.operation.Width.{Width}
use Rattle.bpf_parts.specs.declared.operation.Condition.{Condition}
use Rattle.bpf_parts.specs.declared.operation.Operand.{Operand}
use Rattle.bpf_parts.specs.declared.operation.Operand.TheVariants.{FromRegister, Immediate}
use Rattle.absdom_num.specs.declared.ranges.Range.{Range}
use Rattle.absdom_num.specs.declared.refinement.Edges.{Edges as RangeEdges}
use Rattle.absdom_num.specs.Refinement.{refined_ranges}
use Rattle.absdom.specs.declared.kinds.AbsKind.{AbsKind}
use Rattle.absdom.specs.declared.kinds.AbsKind.TheVariants.{Unset, Num, Ptr, Map}
use Rattle.absdom.specs.Kinds.{number_of}
use Rattle.absdom.specs.State.{StateValue, kind_in, kind_at, with_kind}
use Rattle.absdom.specs.Edges.{Edges, compared_range, with_source, edge_states, unrefined_edges, is_itself, ranges_of, compared_edges, refined_edges}

is_number : (p : AbsKind) (range : Range) → number_of p ≡ Ok range → p ≡ Num range
is_number (Num own) range e = cc
is_number Unset range e = absurd cc
is_number (Ptr region offsets) range e = absurd cc
is_number (Map index) range e = absurd cc

-- a kind that the register has already
pub write_same : (kinds : List AbsKind) (register : ℕ) (kind : AbsKind) → kind_in kinds register ≡ kind → set kinds register kind ≡ kinds
write_same [] register kind e = refl
write_same (k ∷ kinds) zero kind e = ap (λ x. x ∷ kinds) (sym e)
write_same (k ∷ kinds) (suc register) kind e = ap (λ xs. k ∷ xs) (write_same kinds register kind e)

with_same : (a : StateValue) (register : ℕ) (range : Range) → number_of (kind_at a register) ≡ Ok range → with_kind a register (Num range) ≡ a
with_same a register range e =
    ap (λ (kinds : List AbsKind). let b : StateValue = record { kinds = kinds; marks = a.marks; ranges = a.ranges } in b)
    (write_same a.kinds register (Num range) (is_number (kind_at a register) range e))

itself_same : (width : Width) (a : StateValue) (dst : ℕ) (src : Operand) (left right : Range) → is_itself dst src ≡ true → number_of (kind_at a dst) ≡ Ok left → compared_range width a src ≡ Ok right → with_source (with_kind a dst (Num left)) src right ≡ a
itself_same width a dst (FromRegister register) left right t e d =
    ap (λ (b : StateValue). with_kind b register (Num right)) (with_same a dst left e) ∙ with_same a register right d
itself_same width a dst (Immediate value) left right t e d = absurd cc

edges_same : (condition : Condition) (width : Width) (a : StateValue) (dst : ℕ) (src : Operand) (left right : Range) (t : Bool) → is_itself dst src ≡ t → number_of (kind_at a dst) ≡ Ok left → compared_range width a src ≡ Ok right
    → (if t then unrefined_edges a else edge_states a dst src (refined_ranges condition width left right)) ≡ edge_states a dst src (let ranges : RangeEdges = if t then record { taken = Some (record { dst = left; src = right }); not_taken = Some (record { dst = left; src = right }) } else refined_ranges condition width left right in ranges)
edges_same condition width a dst src left right true t e d =
    ap (λ (b : StateValue). let edges : Edges = record { taken = Some b; not_taken = Some b } in edges) (sym (itself_same width a dst src left right t e d))
edges_same condition width a dst src left right false t e d = refl

-- if the operands are numbers
pub edges_by_ranges : (condition : Condition) (width : Width) (a : StateValue) (dst : ℕ) (src : Operand) (left right : Range) → number_of (kind_at a dst) ≡ Ok left → compared_range width a src ≡ Ok right → refined_edges a condition width dst src ≡ Ok (edge_states a dst src (ranges_of condition width dst src left right))
edges_by_ranges condition width a dst src left right e d =
    ap (λ x. compared_edges condition width a dst src x (compared_range width a src)) e
    ∙ ap (λ x. compared_edges condition width a dst src (Ok left) x) d
    ∙ ap (λ (edges : Edges). Ok edges) (edges_same condition width a dst src left right (is_itself dst src) refl e d)
