-- What the refusals of loads say.
use Rattle.std.proofs.Common.{◌≡◌, ◌≢◌, ◌≤◌, ◌<◌, ◌⊎◌, ◌^◌, inl, inr, ℕ, ◌+◌, List, Bool, true, false, cond, length, Option, Some, None, refl, sym, ap, ◌∙◌, subst, arith}
use Rattle.std.specs.Prelude.{is_some, IsSome}
use Rattle.std.proofs.lemmas.List.{get_or_past}
use Rattle.bpf_insn.specs.declared.insn.Insn.{Insn}
use Rattle.bpf.specs.Fault.{image_fault_code, image_fault_slot}
use Rattle.bpf.specs.Program.{Program, IsProgram, image_bytes, insn_at}
use Rattle.bpf.specs.declared.fault.ImageFault.{ImageFault}
use Rattle.bpf.specs.declared.fault.ImageFault.TheVariants as image_faults
use Rattle.machine.specs.Sizes.{Maps}
use Rattle.bver.specs.Refusals.{IsRefusal, of_form, of_values, of_memory}
use Rattle.bver_form.specs.Codes.{refusal_code}
use Rattle.bver_form.specs.Laws.{FaultIsKnown}
use Rattle.bver_form.specs.declared.refusal.Refusal.{Refusal}
use Rattle.bver_form.specs.declared.refusal.Refusal.TheVariants as refusals
use Rattle.bver_form.specs.declared.refusal.Refused.{Refused}
use Rattle.rmap.specs.declared.boot_records.ControlData.{ControlData}
use Rattle.node_parts.specs.declared.refusal.LoadRefusal.{LoadRefusal}
use Rattle.node_parts.specs.declared.refusal.LoadRefusal.TheVariants.{Control, Slot, Image, Program as Unverified, GenerationsFull}
use Rattle.node_parts.specs.Loads.{IsUnpreparedBy, IsUnspelled, IsUnverified, control_fault, load_refusal_code, load_refusal_slot, loaded_bytes, wants_image_memory, wants_verifier_memory}
use Rattle.node_parts.specs.Laws.{IsControlCode, IsVerifierCode, RefusalsSayWhy, SaysWhy}
use Rattle.node_parts.proofs.Refusals.{control_faults, image_codes_few}

-- a code above 18 is none of the verifier's
not_verifier : (code : ℕ) → 19 ≤ code → IsVerifierCode code → ⊥
not_verifier code high own = elim own [ inl low ↦ absurd (omega (arith, high, low)) | inr is ↦ absurd (omega (arith, high, is)) ]

by_control : (control : ControlData) (staged : List ℕ) (sizes : Maps) (count : ℕ) → control_fault control ≡ Some Control → SaysWhy control staged sizes count Control
by_control control staged sizes count is = record {
  control_is_wrong = (λ e. inl refl, λ w. is);
  unspelled = λ low high. absurd (omega (arith, high));
  spelled = λ own. absurd (not_verifier _ (omega arith) own);
  full = λ e. absurd (omega (arith, e));
  unplaced = λ low other. refl;
  no_want = refl;
}

by_slot : (control : ControlData) (staged : List ℕ) (sizes : Maps) (count : ℕ) → control_fault control ≡ Some Slot → SaysWhy control staged sizes count Slot
by_slot control staged sizes count is = record {
  control_is_wrong = (λ e. inr refl, λ w. is);
  unspelled = λ low high. absurd (omega (arith, high));
  spelled = λ own. absurd (not_verifier _ (omega arith) own);
  full = λ e. absurd (omega (arith, e));
  unplaced = λ low other. refl;
  no_want = refl;
}

is_none : (o : Option LoadRefusal) (refusal : LoadRefusal) → o ≡ None → o ≡ Some refusal → ⊥
is_none o refusal none some = absurd (cc (none, some))

-- the code is none of the control data's, which are right
no_control : (control : ControlData) (refusal : LoadRefusal) → control_fault control ≡ None → load_refusal_code refusal ≢ 71 → load_refusal_code refusal ≢ 66 → ((control_fault control ≡ Some refusal) → IsControlCode (load_refusal_code refusal)) × (IsControlCode (load_refusal_code refusal) → (control_fault control ≡ Some refusal))
no_control control refusal none first second =
    (λ e. absurd (is_none (control_fault control) refusal none e), λ w. elim w [ inl a ↦ absurd (first a) | inr b ↦ absurd (second b) ])

-- only the fault of an instruction has a slot
no_slot : (f : ImageFault) → image_fault_code f ≢ 7 → image_fault_slot f ≡ 0
no_slot image_faults.Magic other = refl
no_slot image_faults.Version other = refl
no_slot image_faults.Length other = refl
no_slot image_faults.Count other = refl
no_slot image_faults.Budget other = refl
no_slot image_faults.Loop other = refl
no_slot (image_faults.Insn slot fault) other = absurd (other refl)
no_slot image_faults.Memory other = refl

image_wants_none : (f : ImageFault) → f ≢ image_faults.Memory → wants_image_memory f ≡ false
image_wants_none image_faults.Magic other = refl
image_wants_none image_faults.Version other = refl
image_wants_none image_faults.Length other = refl
image_wants_none image_faults.Count other = refl
image_wants_none image_faults.Budget other = refl
image_wants_none image_faults.Loop other = refl
image_wants_none (image_faults.Insn slot fault) other = refl
image_wants_none image_faults.Memory other = absurd (other refl)

by_image : (control : ControlData) (staged : List ℕ) (sizes : Maps) (count : ℕ) (fault : ImageFault) → control_fault control ≡ None → fault ≢ image_faults.Memory → ((p : Program) → IsProgram p → loaded_bytes control staged ≢ image_bytes p) → SaysWhy control staged sizes count (Image fault)
by_image control staged sizes count fault none other spells_none =
    let few = image_codes_few fault in
    record {
      control_is_wrong = no_control control (Image fault) none (omega (arith, few)) (omega (arith, few));
      unspelled = λ low high. spells_none;
      spelled = λ own. absurd (not_verifier _ (omega arith) own);
      full = λ e. absurd (omega (arith, few, e));
      unplaced = λ low other. no_slot fault (λ e. absurd (other (ap (λ n. 32 + n) e)));
      no_want = image_wants_none fault other;
    }

-- the numbers of the verifier's refusals are at most 18
refusal_codes_few : (r : Refusal) → refusal_code r ≤ 18
refusal_codes_few refusals.Target = omega arith
refusal_codes_few refusals.BackJump = omega arith
refusal_codes_few refusals.LoopShape = omega arith
refusal_codes_few refusals.LoopEntry = omega arith
refusal_codes_few refusals.Unset = omega arith
refusal_codes_few refusals.KindMismatch = omega arith
refusal_codes_few refusals.OutOfRegion = omega arith
refusal_codes_few refusals.UnsetStack = omega arith
refusal_codes_few refusals.HeaderWrite = omega arith
refusal_codes_few refusals.FrameWrite = omega arith
refusal_codes_few refusals.PointerRange = omega arith
refusal_codes_few refusals.MapKey = omega arith
refusal_codes_few refusals.Helper = omega arith
refusal_codes_few refusals.FallOff = omega arith
refusal_codes_few refusals.Budget = omega arith
refusal_codes_few refusals.Unsupported = omega arith
refusal_codes_few refusals.Memory = omega arith
refusal_codes_few refusals.MapKind = omega arith

verifier_wants_none : (r : Refusal) → r ≢ refusals.Memory → wants_verifier_memory r ≡ false
verifier_wants_none refusals.Target other = refl
verifier_wants_none refusals.BackJump other = refl
verifier_wants_none refusals.LoopShape other = refl
verifier_wants_none refusals.LoopEntry other = refl
verifier_wants_none refusals.Unset other = refl
verifier_wants_none refusals.KindMismatch other = refl
verifier_wants_none refusals.OutOfRegion other = refl
verifier_wants_none refusals.UnsetStack other = refl
verifier_wants_none refusals.HeaderWrite other = refl
verifier_wants_none refusals.FrameWrite other = refl
verifier_wants_none refusals.PointerRange other = refl
verifier_wants_none refusals.MapKey other = refl
verifier_wants_none refusals.Helper other = refl
verifier_wants_none refusals.FallOff other = refl
verifier_wants_none refusals.Budget other = refl
verifier_wants_none refusals.Unsupported other = refl
verifier_wants_none refusals.Memory other = absurd (other refl)
verifier_wants_none refusals.MapKind other = refl

-- if an instruction begins at a slot, it is one of the program's
slot_within : (p : Program) (slot : ℕ) → IsSome (insn_at p slot) → slot < length p.slots
slot_within p slot begins = elim at_end [
  | inl below ↦ below
  | inr past ↦ absurd (true_is_not_false (sym begins ∙ ap (λ (o : Option Insn). is_some o) (get_or_past p.slots slot None past)))
]
  where
    at_end : (slot < length p.slots) ⊎ (length p.slots ≤ slot)
    at_end = search arith

    true_is_not_false : true ≡ false → ⊥
    true_is_not_false e = absurd cc

-- the slot of a refusal is one of the program's, if memory was not refused
placed : FaultIsKnown → (p : Program) (r : Refused) → IsProgram p → IsRefusal p r → r.code ≢ refusals.Memory → r.slot < length p.slots
placed known p r program why other = elim why [
  | of_form fault ↦ (known p r program fault).1
  | of_values formed fault ↦ slot_within p r.slot fault.begins
  | of_memory formed code slot ↦ absurd (other code)
]

by_verifier : FaultIsKnown → (control : ControlData) (staged : List ℕ) (sizes : Maps) (count : ℕ) (refused : Refused) → control_fault control ≡ None → IsUnverified (loaded_bytes control staged) sizes (Unverified refused) → SaysWhy control staged sizes count (Unverified refused)
by_verifier known control staged sizes count refused none is =
    let few = refusal_codes_few refused.code in
    let same : refused ≡ is.refused = unverified_same refused is.refused is.is in
    let other : refused.code ≢ refusals.Memory = λ e. absurd (is.no_want (sym (ap (λ (r : Refused). r.code) same) ∙ e)) in
    let why : IsRefusal is.program refused = subst (λ (r : Refused). IsRefusal is.program r) (sym same) is.why in
    record {
      control_is_wrong = no_control control (Unverified refused) none (omega (arith, few)) (omega (arith, few));
      unspelled = λ low high. absurd (omega (arith, few, low));
      spelled = λ own. (is.program, is.is_program, is.spelled, placed known is.program refused is.is_program why other, is.unjustified);
      full = λ e. absurd (omega (arith, few, e));
      unplaced = λ low other. absurd (omega (arith, few, low));
      no_want = verifier_wants_none refused.code other;
    }
  where
    unverified_same : (a b : Refused) → Unverified a ≡ Unverified b → a ≡ b
    unverified_same a b e = cc

by_publishing : (control : ControlData) (staged : List ℕ) (sizes : Maps) (count : ℕ) → control_fault control ≡ None → 2 ^ 32 ≤ count → SaysWhy control staged sizes count GenerationsFull
by_publishing control staged sizes count none all = record {
  control_is_wrong = no_control control GenerationsFull none (omega arith) (omega arith);
  unspelled = λ low high. absurd (omega (arith, high));
  spelled = λ own. absurd (not_verifier _ (omega arith) own);
  full = λ e. all;
  unplaced = λ low other. refl;
  no_want = refl;
}

by_fault : FaultIsKnown → (control : ControlData) (staged : List ℕ) (sizes : Maps) (count : ℕ) (refusal : LoadRefusal) (o : Option LoadRefusal) → control_fault control ≡ o → IsUnpreparedBy o (loaded_bytes control staged) sizes refusal → SaysWhy control staged sizes count refusal
by_fault known control staged sizes count refusal (Some fault) is why = elim (control_faults control fault is) [
  | inl first ↦ subst (λ (r : LoadRefusal). SaysWhy control staged sizes count r) (sym (why ∙ first)) (by_control control staged sizes count (is ∙ ap Some first))
  | inr second ↦ subst (λ (r : LoadRefusal). SaysWhy control staged sizes count r) (sym (why ∙ second)) (by_slot control staged sizes count (is ∙ ap Some second))
]
by_fault known control staged sizes count refusal None is why = elim why [
  | inl unspelled ↦ subst (λ (r : LoadRefusal). SaysWhy control staged sizes count r) (sym unspelled.is) (by_image control staged sizes count unspelled.fault is unspelled.no_want unspelled.unspelled)
  | inr unverified ↦ subst (λ (r : LoadRefusal). SaysWhy control staged sizes count r) (sym unverified.is)
      (by_verifier known control staged sizes count unverified.refused is (subst (λ (r : LoadRefusal). IsUnverified (loaded_bytes control staged) sizes r) unverified.is unverified))
]

pub refusals_say_why : FaultIsKnown → RefusalsSayWhy
refusals_say_why known control staged sizes count refusal load = elim load [
  | inl unprepared ↦ by_fault known control staged sizes count refusal (control_fault control) refl unprepared
  | inr prepared ↦ subst (λ (r : LoadRefusal). SaysWhy control staged sizes count r) (sym prepared.4) (by_publishing control staged sizes count prepared.2.control_is_right prepared.3)
]
