-- Numbers of refusals, bytes that are no image, and lack of memory.
use Rattle.std.proofs.Common.{◌≡◌, ◌≢◌, ◌≤◌, ◌<◌, ◌⊎◌, ◌^◌, inl, inr, ℕ, List, Option, None, Some, Bool, true, false, cond, Ok, refl, sym, ap, ap₂, ◌∙◌, subst, arith}
use Rattle.std.specs.Prelude.{◌==◌, ◌||◌, not, nat_lt, Result, Err, IfErr, IsErrAnd}
use Rattle.bpf.specs.Fault.{image_fault_code}
use Rattle.bpf.specs.declared.fault.ImageFault.{ImageFault}
use Rattle.bpf.specs.declared.fault.ImageFault.TheVariants as image_faults
use Rattle.bpf.specs.Program.{Program, IsProgram, image_bytes}
use Rattle.bpf.specs.Reading.{FailsReading, image_reading}
use Rattle.bver.specs.Justified.{AcceptedValue}
use Rattle.bver.specs.Unjustified.{ReportsUnjustified}
use Rattle.bver.specs.Refusals.{IsRefusal, IsValueRefusal, of_form, of_values, of_memory}
use Rattle.bver_form.specs.Codes.{IsFormCode}
use Rattle.bver_form.specs.Laws.{FaultIsKnown}
use Rattle.bver_form.specs.declared.refusal.Refusal.{Refusal}
use Rattle.bver_form.specs.declared.refusal.Refusal.TheVariants as refusals
use Rattle.bver_form.specs.declared.refusal.Refused.{Refused}
use Rattle.machine.specs.Sizes.{Maps}
use Rattle.node_programs.specs.Codes.{IsUnpublished}
use Rattle.node_programs.specs.declared.faults.PublishFault.{PublishFault}
use Rattle.rmap.specs.declared.boot_records.ControlData.{ControlData}
use Rattle.node_parts.specs.declared.refusal.LoadRefusal.{LoadRefusal}
use Rattle.node_parts.specs.declared.refusal.LoadRefusal.TheVariants.{Control, Slot, Image, Program as Unverified, Memory, GenerationsFull}
use Rattle.node_parts.specs.Loads.{of_image, of_verifier, IsFirstFault, IsPrepared, IsUnprepared, IsUnpreparedBy, IsUnspelled, IsUnverified, WantsToPrepare, WantsToVerify, control_fault, loaded_bytes, refusal_of_publishing, verifier_memory}
use Rattle.node_parts.specs.Outcomes.{IsLoadRefusal, WantsMemory, preparing, publishing}

pub image_codes_few : (f : ImageFault) → image_fault_code f ≤ 8
image_codes_few image_faults.Magic = omega arith
image_codes_few image_faults.Version = omega arith
image_codes_few image_faults.Length = omega arith
image_codes_few image_faults.Count = omega arith
image_codes_few image_faults.Budget = omega arith
image_codes_few image_faults.Loop = omega arith
image_codes_few (image_faults.Insn slot fault) = omega arith
image_codes_few image_faults.Memory = omega arith

-- a fault, except lack of memory, is not that of bytes that are read
not_read : (f : ImageFault) (p : Program) → f ≢ image_faults.Memory → FailsReading f (Ok p) → ⊥
not_read image_faults.Magic p other e = absurd cc
not_read image_faults.Version p other e = absurd cc
not_read image_faults.Length p other e = absurd cc
not_read image_faults.Count p other e = absurd cc
not_read image_faults.Budget p other e = absurd cc
not_read image_faults.Loop p other e = absurd cc
not_read (image_faults.Insn slot fault) p other e = absurd cc
not_read image_faults.Memory p other e = other refl

is_memory : (f : ImageFault) → (f ≢ image_faults.Memory) ⊎ (f ≡ image_faults.Memory)
is_memory image_faults.Magic = inl (λ e. absurd cc)
is_memory image_faults.Version = inl (λ e. absurd cc)
is_memory image_faults.Length = inl (λ e. absurd cc)
is_memory image_faults.Count = inl (λ e. absurd cc)
is_memory image_faults.Budget = inl (λ e. absurd cc)
is_memory image_faults.Loop = inl (λ e. absurd cc)
is_memory (image_faults.Insn slot fault) = inl (λ e. absurd cc)
is_memory image_faults.Memory = inr refl

-- a fault of an image, or lack of memory
pub unspelled : (bytes : List ℕ) (f : ImageFault) (refusal : LoadRefusal) → refusal ≡ Image f
    → ((p : Program) → IsProgram p → bytes ≡ image_bytes p → FailsReading f (Ok p)) → IsUnspelled bytes refusal ⊎ (refusal ≡ Image image_faults.Memory)
unspelled bytes f refusal is only = elim (is_memory f) [
  | inl other ↦ inl (record {
    fault = f;
    is = is;
    no_want = other;
    unspelled = λ p program spelled. not_read f p other (only p program spelled);
  })
  | inr memory ↦ inr (is ∙ ap Image memory)
]

-- a refusal of the verifier for what is wrong with the program is another than lack of memory
known_form : (code : Refusal) → IsFormCode code → code ≢ refusals.Memory
known_form code is memory = subst IsFormCode memory is

known_value : (code : Refusal) → IsValueRefusal code → code ≢ refusals.Memory
known_value code is memory = subst IsValueRefusal memory is

abbrev refused_of : Refusal → ℕ → Refused
refused_of code slot = record { code = code; slot = slot }

refused_same : (r : Refused) (code : Refusal) (slot : ℕ) → r.code ≡ code → r.slot ≡ slot → r ≡ refused_of code slot
refused_same r code slot c s = ap₂ refused_of c s

-- a refusal of the verifier, or lack of memory
pub unverified : FaultIsKnown → (bytes : List ℕ) (sizes : Maps) (p : Program) (r : Refused) (refusal : LoadRefusal) → refusal ≡ Unverified r
    → IsProgram p → bytes ≡ image_bytes p → IsRefusal p r → ReportsUnjustified p sizes r → IsUnpreparedBy None bytes sizes refusal ⊎ WantsToVerify bytes refusal
unverified known bytes sizes p r refusal is program spelled why unjustified = elim why [
  | of_form fault ↦ reported (known_form r.code (known p r program fault).0)
  | of_values formed fault ↦ reported (known_value r.code fault.code)
  | of_memory formed code slot ↦ inr (inr (p, program, spelled, is ∙ ap Unverified (refused_same r refusals.Memory 0 code slot)))
]
  where
    reported : r.code ≢ refusals.Memory → IsUnpreparedBy None bytes sizes refusal ⊎ WantsToVerify bytes refusal
    reported other = inl (inr (record { program = p; is_program = program; spelled = spelled; refused = r; is = is; no_want = other; why = why; unjustified = unjustified other }))

-- the same of what a call comes to that ends so
pub unverified_reported : {A : Type 0} (known : FaultIsKnown) (bytes : List ℕ) (sizes : Maps) (p : Program) (r : Refused) (result : Result A LoadRefusal) → IsErrAnd result (λ (refusal : LoadRefusal). refusal ≡ Unverified r)
    → IsProgram p → bytes ≡ image_bytes p → IsRefusal p r → ReportsUnjustified p sizes r → IfErr result (λ (refusal : LoadRefusal). IsUnpreparedBy None bytes sizes refusal ⊎ WantsToVerify bytes refusal)
unverified_reported known bytes sizes p r (Ok a) is program spelled why unjustified = tt
unverified_reported known bytes sizes p r (Err refusal) is program spelled why unjustified = unverified known bytes sizes p r refusal is program spelled why unjustified

-- the same if the image was refused
pub unread : (bytes : List ℕ) (sizes : Maps) (refusal : LoadRefusal) → IsUnspelled bytes refusal ⊎ (refusal ≡ Image image_faults.Memory) → IsUnpreparedBy None bytes sizes refusal ⊎ WantsToVerify bytes refusal
unread bytes sizes refusal why = elim why [
  | inl fault ↦ inl (inl fault)
  | inr memory ↦ inr (inl memory)
]

-- control data that are right
pub unprepared : (control : ControlData) (staged : List ℕ) (sizes : Maps) (refusal : LoadRefusal) → control_fault control ≡ None
    → IsUnpreparedBy None (loaded_bytes control staged) sizes refusal ⊎ WantsToVerify (loaded_bytes control staged) refusal
    → IsUnprepared control staged sizes refusal ⊎ WantsToPrepare control staged refusal
unprepared control staged sizes refusal right why = elim why [
  | inl fault ↦ inl (subst (λ (o : Option LoadRefusal). IsUnpreparedBy o (loaded_bytes control staged) sizes refusal) (sym right) fault)
  | inr want ↦ inr (elim want [
    | inl image ↦ WantsToPrepare.of_image right image
    | inr verifier ↦ WantsToPrepare.of_verifier right verifier.0 verifier.1 verifier.2 verifier.3
  ])
]

-- the same of what a call comes to that ends so
pub unprepared_reported : {A : Type 0} (control : ControlData) (staged : List ℕ) (sizes : Maps) (reported : LoadRefusal) (result : Result A LoadRefusal) → IsErrAnd result (λ (refusal : LoadRefusal). refusal ≡ reported) → control_fault control ≡ None
    → IsUnpreparedBy None (loaded_bytes control staged) sizes reported ⊎ WantsToVerify (loaded_bytes control staged) reported
    → IfErr result (λ (refusal : LoadRefusal). IsUnprepared control staged sizes refusal ⊎ WantsToPrepare control staged refusal)
unprepared_reported control staged sizes reported (Ok a) is right why = tt
unprepared_reported control staged sizes reported (Err refusal) is right why =
    unprepared control staged sizes refusal right (subst (λ (r : LoadRefusal). IsUnpreparedBy None (loaded_bytes control staged) sizes r ⊎ WantsToVerify (loaded_bytes control staged) r) (sym is) why)

-- control data that are wrong
pub misdirected : (control : ControlData) (staged : List ℕ) (sizes : Maps) (fault refusal : LoadRefusal) → control_fault control ≡ Some fault → refusal ≡ fault → IsUnprepared control staged sizes refusal
misdirected control staged sizes fault refusal wrong is = subst (λ (o : Option LoadRefusal). IsUnpreparedBy o (loaded_bytes control staged) sizes refusal) (sym wrong) is

at_end : (count : ℕ) → (count < 2 ^ 32) ⊎ (2 ^ 32 ≤ count)
at_end count = search arith

-- what is not prepared is not loaded
pub not_prepared : (control : ControlData) (staged : List ℕ) (sizes : Maps) (count : ℕ) (refusal : LoadRefusal)
    → IsUnprepared control staged sizes refusal ⊎ WantsToPrepare control staged refusal → IsLoadRefusal control staged sizes count refusal
not_prepared control staged sizes count refusal why = elim why [
  | inl fault ↦ inl (inl fault)
  | inr want ↦ inr (WantsMemory.preparing want)
]

-- the same of what a call comes to that ends so
pub not_prepared_reported : {A : Type 0} (control : ControlData) (staged : List ℕ) (sizes own : Maps) (count : ℕ) (reported : LoadRefusal) (result : Result A LoadRefusal) → sizes ≡ own → IsErrAnd result (λ (refusal : LoadRefusal). refusal ≡ reported)
    → IsUnprepared control staged sizes reported ⊎ WantsToPrepare control staged reported → IfErr result (IsLoadRefusal control staged own count)
not_prepared_reported control staged sizes own count reported (Ok a) same is why = tt
not_prepared_reported control staged sizes own count reported (Err refusal) same is why =
    subst (λ (s : Maps). IsLoadRefusal control staged s count refusal) same
    (not_prepared control staged sizes count refusal (subst (λ (r : LoadRefusal). IsUnprepared control staged sizes r ⊎ WantsToPrepare control staged r) (sym is) why))

-- nor is what is not published
pub not_published : (control : ControlData) (staged : List ℕ) (sizes : Maps) (count slot : ℕ) (program : AcceptedValue) (fault : PublishFault) (refusal : LoadRefusal)
    → refusal ≡ refusal_of_publishing fault → IsPrepared control staged sizes slot program → IsUnpublished count fault → IsLoadRefusal control staged sizes count refusal
not_published control staged sizes count slot program fault refusal is prepared why = elim (at_end count) [
  | inl fewer ↦ inr (WantsMemory.publishing slot program prepared fewer (is ∙ ap refusal_of_publishing (why.memory fewer)))
  | inr all ↦ inl (inr (slot, program, prepared, all, is ∙ ap refusal_of_publishing (why.full all)))
]

-- the same of what a call comes to that ends so
pub not_published_reported : {A : Type 0} (control : ControlData) (staged : List ℕ) (sizes own : Maps) (count slot : ℕ) (program : AcceptedValue) (fault : PublishFault) (result : Result A LoadRefusal) → sizes ≡ own → IsErrAnd result (λ (refusal : LoadRefusal). refusal ≡ refusal_of_publishing fault)
    → IsPrepared control staged sizes slot program → IsUnpublished count fault → IfErr result (IsLoadRefusal control staged own count)
not_published_reported control staged sizes own count slot program fault (Ok a) same is prepared why = tt
not_published_reported control staged sizes own count slot program fault (Err refusal) same is prepared why =
    subst (λ (s : Maps). IsLoadRefusal control staged s count refusal) same
    (not_published control staged sizes count slot program fault refusal is prepared why)

-- the fault of an image is the first
pub first_fault : (bytes : List ℕ) (f : ImageFault) (refusal : LoadRefusal) → refusal ≡ Image f → FailsReading f (image_reading bytes) → IsFirstFault bytes refusal
first_fault bytes f refusal is fails fault e =
    subst (λ (g : ImageFault). FailsReading g (image_reading bytes)) (image_same f fault (sym is ∙ e)) fails
  where
    image_same : (a b : ImageFault) → Image a ≡ Image b → a ≡ b
    image_same a b e = cc

-- a refusal of the verifier is no fault of an image
pub no_fault : (bytes : List ℕ) (r : Refused) (refusal : LoadRefusal) → refusal ≡ Unverified r → IsFirstFault bytes refusal
no_fault bytes r refusal is fault e = absurd (apart (sym is ∙ e))
  where
    apart : Unverified r ≡ Image fault → ⊥
    apart same = absurd cc

some_same : (a b : LoadRefusal) → Some a ≡ Some b → a ≡ b
some_same a b e = cc

-- control data that are not right have one of two faults
two_faults : (first second : Bool) (fault : LoadRefusal) → cond first (Some Control) (cond second (Some Slot) None) ≡ Some fault → (fault ≡ Control) ⊎ (fault ≡ Slot)
two_faults true second fault e = inl (sym (some_same Control fault e))
two_faults false true fault e = inr (sym (some_same Slot fault e))
two_faults false false fault e = absurd cc

pub control_faults : (control : ControlData) (fault : LoadRefusal) → control_fault control ≡ Some fault → (fault ≡ Control) ⊎ (fault ≡ Slot)
control_faults control fault e = two_faults (not (control.zero == 0) || nat_lt 16384 control.length) (nat_lt 3 control.slot) fault e

-- what is wrong with control data is no fault of an image
pub no_control_fault : (control : ControlData) (bytes : List ℕ) (wrong refusal : LoadRefusal) → control_fault control ≡ Some wrong → refusal ≡ wrong → IsFirstFault bytes refusal
no_control_fault control bytes wrong refusal is same fault e = elim (control_faults control wrong is) [
  | inl first ↦ absurd (apart_control (sym first ∙ sym same ∙ e))
  | inr second ↦ absurd (apart_slot (sym second ∙ sym same ∙ e))
]
  where
    apart_control : Control ≡ Image fault → ⊥
    apart_control clash = absurd cc

    apart_slot : Slot ≡ Image fault → ⊥
    apart_slot clash = absurd cc
