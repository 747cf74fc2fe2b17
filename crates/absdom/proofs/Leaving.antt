-- What an instruction keeps, and that a comparison only refines.
use Rattle.std.proofs.Common.{◌≡◌, ◌≢◌, ℕ, ◌+◌, ◌-◌, ◌≤◌, true, false, ◌==◌, if◌then◌else◌, ℤ, refl, ◌∙◌, ap, arith, Option, Some, None, Result, Ok, Err, List, length, length-set, get_or-set_other}
use Rattle.std.specs.Prelude.{◌||◌, IfSome, IfOk}
use Rattle.std.proofs.lemmas.Bool.Decides.{nat_tests}
use Rattle.bpf_insn.specs.Flow.{is_written}
use Rattle.bpf_parts.specs.declared.operation.Width.{Width}
use Rattle.bpf_parts.specs.declared.operation.Width.TheVariants.{Bits64}
use Rattle.bpf_parts.specs.declared.operation.Condition.{Condition}
use Rattle.bpf_parts.specs.declared.operation.Operand.{Operand}
use Rattle.bpf_parts.specs.declared.operation.Operand.TheVariants.{FromRegister, Immediate}
use Rattle.bpf_parts.specs.declared.callee.Callee.{Callee}
use Rattle.bpf_insn.specs.declared.insn.Insn.{Insn}
use Rattle.bpf_insn.specs.declared.insn.Insn.TheVariants as insns
use Rattle.machine.specs.declared.regions.Region.{Region}
use Rattle.machine.specs.declared.regions.Region.TheVariants.{Front, Tail, Stack}
use Rattle.machine.specs.Laws.{is_store}
use Rattle.absdom_num.specs.declared.ranges.Range.{Range}
use Rattle.absdom_num.specs.declared.refinement.Operands.{Operands}
use Rattle.absdom_num.specs.Ranges.{IsRange, IsWithin}
use Rattle.absdom_num.specs.Tables.{whole_range}
use Rattle.absdom_num.specs.Refinement.{refined_ranges}
use Rattle.absdom_num.specs.Laws.{IsBelow as AreRangesBelow, RefineShrinks as RangesShrink}
use Rattle.absdom.specs.declared.cause.Cause.{Cause}
use Rattle.absdom.specs.declared.kinds.AbsKind.{AbsKind}
use Rattle.absdom.specs.declared.kinds.AbsKind.TheVariants.{Unset, Num, Ptr, Map}
use Rattle.absdom.specs.Kinds.{number_of, IsKindBelow}
use Rattle.absdom.specs.State.{StateValue, IsStateBelow, IsProper, IsWhole, kind_at, with_kind, after_call}
use Rattle.absdom_stack.specs.StackWords.{AreAllWhole}
use Rattle.absdom_stack.specs.declared.spill.Spill.{Spill}
use Rattle.absdom_stack.specs.declared.spill.Spill.TheVariants.{Forgets}
use Rattle.absdom.specs.Effect.{operand_kind, with_stored, after_write_at, after_write_to, after_store, with_result}
use Rattle.absdom.specs.Edges.{compared_range, with_source, edge_state, edge_states, unrefined_edges, is_itself, edges_of, compared_edges}
use Rattle.absdom.specs.Laws.{IsKnownLeftBy, ApplyLeaves, CallLeaves, ForgetsAll, AreEdgesBelow, StateRefineShrinks}
use Rattle.absdom.proofs.Order.{below_is_reflexive}
use Rattle.absdom.proofs.Narrowing.{write_same}
use Rattle.absdom.proofs.GrowState.{operand_proper, with_kind_grows}
use Rattle.absdom_stack.proofs.MarkSteps.{stored_stays}
use Rattle.absdom_stack.proofs.WordSteps.{still_whole, stored_each, whole_proper}

-- ---- what an instruction keeps

abbrev Leaves : Insn → StateValue → Result StateValue Cause → Type 0
Leaves insn a r = IfOk r (IsKnownLeftBy insn a)

same : (insn : Insn) (a : StateValue) → IsKnownLeftBy insn a a
same insn a = record { kinds = λ k h. refl; marks = λ place m. m; unstored = λ h. refl; ranges = λ h. refl; proper = λ whole. whole.ranges }

other_kind : (a : StateValue) (register k : ℕ) (kind : AbsKind) → (register == k) ≡ false → kind_at (with_kind a register kind) k ≡ kind_at a k
other_kind a register k kind e =
    let ne : k ≢ register = grind (arith, nat_tests) in
    get_or-set_other a.kinds register k kind Unset ne

named : (register k : ℕ) → ((register == k) || false) ≡ false → (register == k) ≡ false
named register k h = grind (arith, nat_tests)

-- the register that an instruction names is the one that it writes
abbrev Names : Insn → (register : ℕ) → Type 0
Names insn register = (k : ℕ) → is_written insn k ≡ false → (register == k) ≡ false

leaves_others : (insn : Insn) (a : StateValue) (register : ℕ) (kind : AbsKind) → Names insn register → IsKnownLeftBy insn a (with_kind a register kind)
leaves_others insn a register kind names =
    record { kinds = λ k h. other_kind a register k kind (names k h); marks = λ place m. m; unstored = λ h. refl; ranges = λ h. refl; proper = λ whole. whole.ranges }

leaves_written : (insn : Insn) (a : StateValue) (register : ℕ) (r : Result AbsKind Cause) → Names insn register → Leaves insn a (with_result a register r)
leaves_written insn a register (Err cause) names = tt
leaves_written insn a register (Ok kind) names = leaves_others insn a register kind names

-- a store

leaves_wrote : (spill : Spill) (insn : Insn) (a : StateValue) (bytes : ℕ) (places : ℕ × ℕ) (value : Range) → (IsWhole a → IsRange value) → is_store insn ≡ true → IsKnownLeftBy insn a (with_stored spill a bytes places value)
leaves_wrote spill insn a bytes places value proper is =
    record {
      kinds = λ k h. refl;
      marks = λ place m. stored_stays a.marks bytes places place m;
      unstored = λ h. absurd (no is h);
      ranges = λ h. absurd (no is h);
      proper = λ whole. stored_each IsRange spill a.ranges bytes places value (proper whole) whole_proper whole.ranges;
    }
  where
    no : is_store insn ≡ true → is_store insn ≡ false → ⊥
    no e f = cc

leaves_wrote_at : (spill : Spill) (insn : Insn) (a : StateValue) (bytes : ℕ) (places : Option (ℕ × ℕ)) (value : Range) → (IsWhole a → IsRange value) → is_store insn ≡ true → Leaves insn a (after_write_at spill a bytes places value)
leaves_wrote_at spill insn a bytes None value proper is = tt
leaves_wrote_at spill insn a bytes (Some places) value proper is = leaves_wrote spill insn a bytes places value proper is

leaves_wrote_to : (spill : Spill) (insn : Insn) (a : StateValue) (bytes : ℕ) (region : Region) (offsets : ℤ × ℤ) (offset : ℤ) (value : Range) → (IsWhole a → IsRange value) → is_store insn ≡ true → Leaves insn a (after_write_to spill a bytes region offsets offset value)
leaves_wrote_to spill insn a bytes Front offsets offset value proper is = tt
leaves_wrote_to spill insn a bytes Tail offsets offset value proper is = tt
leaves_wrote_to spill insn a bytes Stack offsets offset value proper is = leaves_wrote_at spill insn a bytes _ value proper is

leaves_stored : (spill : Spill) (insn : Insn) (a : StateValue) (bytes : ℕ) (base : AbsKind) (offset : ℤ) (value : Result Range Cause) → (IsWhole a → IfOk value IsRange) → is_store insn ≡ true → Leaves insn a (after_store spill a bytes base offset value)
leaves_stored spill insn a bytes Unset offset value proper is = tt
leaves_stored spill insn a bytes (Num n) offset value proper is = tt
leaves_stored spill insn a bytes (Ptr region offsets) offset (Err cause) proper is = tt
leaves_stored spill insn a bytes (Ptr region offsets) offset (Ok value) proper is = leaves_wrote_to spill insn a bytes region offsets offset value proper is
leaves_stored spill insn a bytes (Map index) offset value proper is = tt

number_proper : (k : AbsKind) → IsProper k → IfOk (number_of k) IsRange
number_proper Unset h = tt
number_proper (Num range) h = h
number_proper (Ptr region offsets) h = tt
number_proper (Map index) h = tt

pub apply_leaves : ApplyLeaves
apply_leaves spill a (insns.Alu op width dst src) = leaves_written (insns.Alu op width dst src) a dst _ (named dst)
apply_leaves spill a (insns.Negate width dst) = leaves_written (insns.Negate width dst) a dst _ (named dst)
apply_leaves spill a (insns.MoveSigned extension dst src) = leaves_written (insns.MoveSigned extension dst src) a dst _ (named dst)
apply_leaves spill a (insns.ByteSwap swap bits dst) = leaves_written (insns.ByteSwap swap bits dst) a dst _ (named dst)
apply_leaves spill a (insns.Load size dst place) = leaves_written (insns.Load size dst place) a dst _ (named dst)
apply_leaves spill a (insns.Store size place src) = leaves_stored spill (insns.Store size place src) a _ _ place.offset _ (λ whole. number_proper (operand_kind a src) (operand_proper a src whole)) refl
apply_leaves spill a (insns.Jump comparison offset) = same (insns.Jump comparison offset) a
apply_leaves spill a (insns.Goto distance) = same (insns.Goto distance) a
apply_leaves spill a (insns.Wide dst value) = leaves_others (insns.Wide dst value) a dst _ (named dst)
apply_leaves spill a (insns.LoadMap dst index) = leaves_others (insns.LoadMap dst index) a dst _ (named dst)
apply_leaves spill a (insns.LoadAddress dst address) = same (insns.LoadAddress dst address) a
apply_leaves spill a (insns.Call callee number) = same (insns.Call callee number) a
apply_leaves spill a insns.Exit = same insns.Exit a

-- if ranges are forgotten

forgets_wrote : (a : StateValue) (bytes : ℕ) (places : Option (ℕ × ℕ)) (value : Range) → AreAllWhole a.ranges → IfOk (after_write_at Forgets a bytes places value) (λ b. AreAllWhole b.ranges)
forgets_wrote a bytes None value h = tt
forgets_wrote a bytes (Some places) value h = still_whole a.ranges places.0 (places.1 + bytes - 1) h

forgets_wrote_to : (a : StateValue) (bytes : ℕ) (region : Region) (offsets : ℤ × ℤ) (offset : ℤ) (value : Range) → AreAllWhole a.ranges → IfOk (after_write_to Forgets a bytes region offsets offset value) (λ b. AreAllWhole b.ranges)
forgets_wrote_to a bytes Front offsets offset value h = tt
forgets_wrote_to a bytes Tail offsets offset value h = tt
forgets_wrote_to a bytes Stack offsets offset value h = forgets_wrote a bytes _ value h

forgets_stored : (a : StateValue) (bytes : ℕ) (base : AbsKind) (offset : ℤ) (value : Result Range Cause) → AreAllWhole a.ranges → IfOk (after_store Forgets a bytes base offset value) (λ b. AreAllWhole b.ranges)
forgets_stored a bytes Unset offset value h = tt
forgets_stored a bytes (Num n) offset value h = tt
forgets_stored a bytes (Ptr region offsets) offset (Err cause) h = tt
forgets_stored a bytes (Ptr region offsets) offset (Ok value) h = forgets_wrote_to a bytes region offsets offset value h
forgets_stored a bytes (Map index) offset value h = tt

forgets_written : (a : StateValue) (register : ℕ) (r : Result AbsKind Cause) → AreAllWhole a.ranges → IfOk (with_result a register r) (λ b. AreAllWhole b.ranges)
forgets_written a register (Err cause) h = tt
forgets_written a register (Ok kind) h = h

pub forgets_all : ForgetsAll
forgets_all a (insns.Alu op width dst src) h = forgets_written a dst _ h
forgets_all a (insns.Negate width dst) h = forgets_written a dst _ h
forgets_all a (insns.MoveSigned extension dst src) h = forgets_written a dst _ h
forgets_all a (insns.ByteSwap swap bits dst) h = forgets_written a dst _ h
forgets_all a (insns.Load size dst place) h = forgets_written a dst _ h
forgets_all a (insns.Store size place src) h = forgets_stored a _ _ place.offset _ h
forgets_all a (insns.Jump comparison offset) h = h
forgets_all a (insns.Goto distance) h = h
forgets_all a (insns.Wide dst value) h = h
forgets_all a (insns.LoadMap dst index) h = h
forgets_all a (insns.LoadAddress dst address) h = h
forgets_all a (insns.Call callee number) h = h
forgets_all a insns.Exit h = h

-- a helper's call

-- a call writes no register above r5
written_first : (b : StateValue) (callee : Callee) (number : ℤ) (register k : ℕ) (kind : AbsKind) → is_written (insns.Call callee number) k ≡ false → register ≤ 5 → kind_at (with_kind b register kind) k ≡ kind_at b k
written_first b callee number register k kind h low =
    let ne : k ≢ register = grind (arith, nat_tests) in
    get_or-set_other b.kinds register k kind Unset ne

after_kind : (a : StateValue) (callee : Callee) (number : ℤ) (k : ℕ) → is_written (insns.Call callee number) k ≡ false → kind_at (after_call a) k ≡ kind_at a k
after_kind a callee number k h =
    let a0 = with_kind a 0 (Num (whole_range Bits64)) in
    let a1 = with_kind a0 1 Unset in
    let a2 = with_kind a1 2 Unset in
    let a3 = with_kind a2 3 Unset in
    let a4 = with_kind a3 4 Unset in
    written_first a4 callee number 5 k Unset h (omega arith)
    ∙ written_first a3 callee number 4 k Unset h (omega arith)
    ∙ written_first a2 callee number 3 k Unset h (omega arith)
    ∙ written_first a1 callee number 2 k Unset h (omega arith)
    ∙ written_first a0 callee number 1 k Unset h (omega arith)
    ∙ written_first a callee number 0 k (Num (whole_range Bits64)) h (omega arith)

pub call_leaves : CallLeaves
call_leaves a callee number =
    record { kinds = λ k h. after_kind a callee number k h; marks = λ place m. m; unstored = λ h. refl; ranges = λ h. refl; proper = λ whole. whole.ranges }

-- ---- a comparison only refines

-- a register of a state below another one gets a kind below the one that it has there
with_kind_below : (b a : StateValue) (register : ℕ) (kind : AbsKind) → length b.kinds ≡ length a.kinds → IsKindBelow kind (kind_at a register) → IsStateBelow b a → IsStateBelow (with_kind b register kind) a
with_kind_below b a register kind e h below =
    let grown = with_kind_grows b a register kind (kind_at a register) e h below in
    let back : with_kind a register (kind_at a register) ≡ a =
    ap (λ (kinds : List AbsKind). let c : StateValue = record { kinds = kinds; marks = a.marks; ranges = a.ranges } in c) (write_same a.kinds register (kind_at a register) refl)
    in
    rw back at grown

-- the range of a number that a register is
number_is : (a : StateValue) (register : ℕ) (kind : AbsKind) (range new : Range) → kind_at a register ≡ kind → number_of kind ≡ Ok range → IsWithin new range → IsKindBelow (Num new) (kind_at a register)
number_is a register Unset range new is e h = absurd cc
number_is a register (Num own) range new is e h =
    let same_range : range ≡ own = cc in
    let inside = rw same_range at h in
    rw is inside
number_is a register (Ptr region offsets) range new is e h = absurd cc
number_is a register (Map index) range new is e h = absurd cc

source_below : (b a : StateValue) (width : Width) (src : Operand) (range new : Range) → compared_range width a src ≡ Ok range → IsWithin new range → length b.kinds ≡ length a.kinds → IsStateBelow b a → IsStateBelow (with_source b src new) a
source_below b a width (FromRegister register) range new e h sizes below =
    with_kind_below b a register (Num new) sizes (number_is a register (kind_at a register) range new refl e h) below
source_below b a width (Immediate value) range new e h sizes below = below

edge_below : (a : StateValue) (width : Width) (dst : ℕ) (src : Operand) (left right : Range) (new : Option Operands) → number_of (kind_at a dst) ≡ Ok left → compared_range width a src ≡ Ok right → AreRangesBelow new (Some (record { dst = left; src = right })) → IfSome (edge_state a dst src new) (λ edge. IsStateBelow edge a)
edge_below a width dst src left right None e f h = tt
edge_below a width dst src left right (Some new) e f h =
    source_below (with_kind a dst (Num new.dst)) a width src right new.src f h.1 (length-set a.kinds dst (Num new.dst))
    (with_kind_below a a dst (Num new.dst) refl (number_is a dst (kind_at a dst) left new.dst refl e h.0) (below_is_reflexive a))

edges_below : RangesShrink → (a : StateValue) (condition : Condition) (width : Width) (dst : ℕ) (src : Operand) (left right : Range) → number_of (kind_at a dst) ≡ Ok left → compared_range width a src ≡ Ok right → AreEdgesBelow (edges_of condition width a dst src left right) a
edges_below shrink a condition width dst src left right e f =
    elim (is_itself dst src) as (λ t. AreEdgesBelow (if t then unrefined_edges a else edge_states a dst src (refined_ranges condition width left right)) a) [
      | true ↦ record { taken = below_is_reflexive a; not_taken = below_is_reflexive a }
      | false ↦
          let inside = shrink condition width left right in
          record {
            taken = edge_below a width dst src left right (refined_ranges condition width left right).taken e f inside.taken;
            not_taken = edge_below a width dst src left right (refined_ranges condition width left right).not_taken e f inside.not_taken;
          }
    ]

compared_below : RangesShrink → (a : StateValue) (condition : Condition) (width : Width) (dst : ℕ) (src : Operand) (left right : Result Range Cause) → number_of (kind_at a dst) ≡ left → compared_range width a src ≡ right → IfOk (compared_edges condition width a dst src left right) (λ edges. AreEdgesBelow edges a)
compared_below shrink a condition width dst src (Err cause) right e f = tt
compared_below shrink a condition width dst src (Ok left) (Err cause) e f = tt
compared_below shrink a condition width dst src (Ok left) (Ok right) e f = edges_below shrink a condition width dst src left right e f

pub refine_shrinks : RangesShrink → StateRefineShrinks
refine_shrinks shrink a condition width dst src = compared_below shrink a condition width dst src _ _ refl refl
