-- The state of the machine fits the edge that a comparison takes.
use Rattle.std.proofs.Common.{◌≡◌, ◌≢◌, ℕ, ◌^◌, ◌<◌, ℤ, Bool, true, false, ◌==◌, if◌then◌else◌, refl, sym, ◌∙◌, ap, subst, arith, Option, Some, None, Result, Ok, Err, List, set, get_or-set_other}
use Rattle.std.proofs.lemmas.Bool.Decides.{nat_tests}
use Rattle.bpf_parts.specs.declared.operation.Width.{Width}
use Rattle.bpf_parts.specs.declared.operation.Width.TheVariants.{Bits32, Bits64}
use Rattle.bpf_parts.specs.declared.operation.Condition.{Condition}
use Rattle.bpf_parts.specs.declared.operation.Operand.{Operand}
use Rattle.bpf_parts.specs.declared.operation.Operand.TheVariants.{FromRegister, Immediate}
use Rattle.machine.specs.declared.values.Value.{Value}
use Rattle.machine.specs.declared.values.Value.TheVariants.{Unset as Nothing, Num as Number, Ptr as Pointer, Map as MapOf}
use Rattle.machine.specs.Words.{word, low_part, holds_low, holds_words}
use Rattle.machine.specs.State.{State}
use Rattle.machine.specs.Step.{operand, compares, branches}
use Rattle.absdom_num.specs.declared.ranges.Range.{Range}
use Rattle.absdom_num.specs.declared.refinement.Operands.{Operands}
use Rattle.absdom_num.specs.declared.refinement.Edges.{Edges as RangeEdges}
use Rattle.absdom_num.specs.Ranges.{IsIn}
use Rattle.absdom_num.specs.Refinement.{refined_ranges}
use Rattle.absdom_num.specs.Laws.{AreIn, followed_edge, RefineFits as RangesFit}
use Rattle.absdom.specs.declared.cause.Cause.{Cause}
use Rattle.absdom.specs.declared.kinds.AbsKind.{AbsKind}
use Rattle.absdom.specs.declared.kinds.AbsKind.TheVariants.{Unset, Num, Ptr, Map}
use Rattle.absdom.specs.Kinds.{number_of}
use Rattle.absdom.specs.State.{StateValue, kind_in, kind_at, with_kind}
use Rattle.absdom.specs.Edges.{compared_range, with_source, edge_state, edge_states, unrefined_edges, is_itself, edges_of, compared_edges}
use Rattle.absdom.specs.Fits.{FitsKind, Fits, FitsEdge, edge_where, TakesEdge}
use Rattle.absdom.specs.Laws.{StateRefineFits}
use Rattle.absdom.proofs.FitsMemory.{word_below}
use Rattle.absdom.proofs.FitsState.{at_place}

-- a value that is the number of an operand
abbrev pub HasNumber : Value → Result Range Cause → Type 0
HasNumber v (Err cause) = Unit {0}
HasNumber v (Ok range) = (n : ℕ) × (v ≡ Number n) × IsIn n range

has_number : (v : Value) (p : AbsKind) → FitsKind v p → HasNumber v (number_of p)
has_number v Unset f = tt
has_number v (Ptr r o) f = tt
has_number v (Map i) f = tt
has_number Nothing (Num a) f = absurd f
has_number (Number n) (Num a) f = (n, refl, f)
has_number (Pointer r z) (Num a) f = absurd f
has_number (MapOf i) (Num a) f = absurd f

-- what a comparison compares with: the number of a register, or the bits that it reads of an immediate
abbrev pub SourceIs : State → Width → Operand → ℕ → Type 0
SourceIs s width (FromRegister r) m = s.registers r ≡ Number m
SourceIs s width (Immediate z) m = m ≡ low_part width (word z)

abbrev pub HasSource : State → Width → Operand → Result Range Cause → Type 0
HasSource s width src (Err cause) = Unit {0}
HasSource s width src (Ok range) = (m : ℕ) × SourceIs s width src m × IsIn m range

low_below : (width : Width) (n : ℕ) → n < 2 ^ 64 → low_part width n < 2 ^ 64
low_below Bits32 n h = omega arith
low_below Bits64 n h = h

low-low : (width : Width) (n : ℕ) → low_part width (low_part width n) ≡ low_part width n
low-low Bits32 n = omega arith
low-low Bits64 n = refl

source_of_number : (s : State) (width : Width) (r : ℕ) (result : Result Range Cause) → HasNumber (s.registers r) result → HasSource s width (FromRegister r) result
source_of_number s width r (Err cause) h = tt
source_of_number s width r (Ok range) h = h

has_source : (s : State) (a : StateValue) (width : Width) (src : Operand) → Fits s a → HasSource s width src (compared_range width a src)
has_source s a width (FromRegister r) fits =
    source_of_number s width r (number_of (kind_at a r)) (has_number (s.registers r) (kind_at a r) (fits.registers r))
has_source s a width (Immediate z) fits =
    let below : low_part width (word z) < 2 ^ 64 = low_below width (word z) (word_below z) in
    (low_part width (word z), refl, record { above = omega arith; below = omega arith; word = below })

-- the machine compares these numbers
compares_is : (s : State) (condition : Condition) (width : Width) (offset : ℤ) (src : Operand) (n m : ℕ) → SourceIs s width src m → compares condition width s offset (Number n) (operand s src) ≡ branches s offset (holds_words condition width n m)
compares_is s condition width offset (FromRegister r) n m e = ap (λ v. compares condition width s offset (Number n) v) e
compares_is s condition width offset (Immediate z) n m e =
    ap (λ x. branches s offset (holds_low condition width (low_part width n) x)) (sym (low-low width (word z)) ∙ ap (low_part width) (sym e))

-- a register's kind may be any that its value fits
kind_refined : (regs : ℕ → Value) (kinds : List AbsKind) (r : ℕ) (k : AbsKind) → FitsKind (regs r) k → ((q : ℕ) → FitsKind (regs q) (kind_in kinds q)) → (q : ℕ) (t : Bool) → (q == r) ≡ t → FitsKind (regs q) (kind_in (set kinds r k) q)
kind_refined regs kinds r k f g q false e =
    let ne : q ≢ r = grind (arith, nat_tests) in rw (get_or-set_other kinds r q k Unset ne) (g q)
kind_refined regs kinds r k f g q true e =
    let eq : q ≡ r = grind (arith, nat_tests) in
    let P : ℕ → Type 0 = λ x. FitsKind (regs x) (kind_in (set kinds r k) x) in
    subst P (sym eq) (at_place kinds r (regs r) k f)

pub fits_refined : (s : State) (a : StateValue) (r : ℕ) (k : AbsKind) → FitsKind (s.registers r) k → Fits s a → Fits s (with_kind a r k)
fits_refined s a r k f fits =
    record {
      registers = λ q. kind_refined s.registers a.kinds r k f fits.registers q (q == r) refl;
      bytes = fits.bytes;
      words = fits.words;
    }

number_fits : (v : Value) (n : ℕ) (range : Range) → v ≡ Number n → IsIn n range → FitsKind v (Num range)
number_fits v n range e h = let P : Value → Type 0 = λ x. FitsKind x (Num range) in subst P (sym e) h

with_source_fits : (s : State) (a : StateValue) (width : Width) (src : Operand) (m : ℕ) (range : Range) → SourceIs s width src m → IsIn m range → Fits s a → Fits s (with_source a src range)
with_source_fits s a width (FromRegister r) m range e h fits =
    fits_refined s a r (Num range) (number_fits (s.registers r) m range e h) fits
with_source_fits s a width (Immediate z) m range e h fits = fits

on_edge_fits : (s : State) (a : StateValue) (width : Width) (dst : ℕ) (src : Operand) (n m : ℕ) (new : Option Operands) → s.registers dst ≡ Number n → SourceIs s width src m → AreIn n m new → Fits s a → FitsEdge s (edge_state a dst src new)
on_edge_fits s a width dst src n m None e d h fits = absurd h
on_edge_fits s a width dst src n m (Some new) e d h fits =
    with_source_fits s (with_kind a dst (Num new.dst)) width src m new.src d h.1
    (fits_refined s a dst (Num new.dst) (number_fits (s.registers dst) n new.dst e h.0) fits)

edge_fits : (s : State) (a : StateValue) (width : Width) (dst : ℕ) (src : Operand) (n m : ℕ) (new : RangeEdges) (holds : Bool) → s.registers dst ≡ Number n → SourceIs s width src m → AreIn n m (followed_edge holds new) → Fits s a → FitsEdge s (edge_where holds (edge_states a dst src new))
edge_fits s a width dst src n m new true e d h fits = on_edge_fits s a width dst src n m new.taken e d h fits
edge_fits s a width dst src n m new false e d h fits = on_edge_fits s a width dst src n m new.not_taken e d h fits

unrefined_fits : (s : State) (a : StateValue) (holds : Bool) → Fits s a → FitsEdge s (edge_where holds (unrefined_edges a))
unrefined_fits s a true fits = fits
unrefined_fits s a false fits = fits

edges_fit : RangesFit → (s : State) (a : StateValue) (condition : Condition) (width : Width) (dst : ℕ) (src : Operand) (left right : Range) (n m : ℕ) → s.registers dst ≡ Number n → SourceIs s width src m → IsIn n left → IsIn m right → Fits s a → FitsEdge s (edge_where (holds_words condition width n m) (edges_of condition width a dst src left right))
edges_fit ranges s a condition width dst src left right n m e d g h fits =
    elim (is_itself dst src) as (λ t. FitsEdge s (edge_where (holds_words condition width n m) (if t then unrefined_edges a else edge_states a dst src (refined_ranges condition width left right)))) [
      | true ↦ unrefined_fits s a (holds_words condition width n m) fits
      | false ↦
          edge_fits s a width dst src n m (refined_ranges condition width left right) (holds_words condition width n m) e d
          (ranges condition width left right n m g h) fits
    ]

compared_fit : RangesFit → (s : State) (a : StateValue) (condition : Condition) (width : Width) (dst : ℕ) (src : Operand) (offset : ℤ) (left right : Result Range Cause) → HasNumber (s.registers dst) left → HasSource s width src right → Fits s a → TakesEdge s offset (compares condition width s offset (s.registers dst) (operand s src)) (compared_edges condition width a dst src left right)
compared_fit ranges s a condition width dst src offset (Err cause) right g h fits = tt
compared_fit ranges s a condition width dst src offset (Ok left) (Err cause) g h fits = tt
compared_fit ranges s a condition width dst src offset (Ok left) (Ok right) g h fits = (
  holds_words condition width g.0 h.0,
  ap (λ v. compares condition width s offset v (operand s src)) g.1 ∙ compares_is s condition width offset src g.0 h.0 h.1,
  edges_fit ranges s a condition width dst src left right g.0 h.0 g.1 h.1 g.2 h.2 fits,
)

pub refine_fits : RangesFit → StateRefineFits
refine_fits ranges header s a comparison offset fits =
    let dst = comparison.dst in
    let src = comparison.src in
    compared_fit ranges s a comparison.condition comparison.width dst src offset (number_of (kind_at a dst)) (compared_range comparison.width a src)
    (has_number (s.registers dst) (kind_at a dst) (fits.registers dst)) (has_source s a comparison.width src fits) fits
