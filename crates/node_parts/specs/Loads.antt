-- What a load asks, and why it is refused: a choice of this target.
use Rattle.std.specs.Prelude.{◌≡◌, ◌≢◌, ◌<◌, ◌≤◌, ◌⊎◌, ◌^◌, ℕ, ◌+◌, ◌-◌, ◌*◌, ◌==◌, ◌||◌, not, nat_lt}
use Rattle.std.specs.Prelude.{if◌then◌else◌, Bool, true, false, List, [], ◌∷◌, ◌++◌, take, slice_index, Option}
use Rattle.std.specs.Prelude.{Some, None}
use Rattle.std.specs.Option.{option_map}
use Rattle.bpf_insn.specs.declared.decoder.BadInsn.TheVariants.{Opcode}
use Rattle.bpf.specs.Fault.{image_fault_code, image_fault_of_code, image_fault_slot}
use Rattle.bpf.specs.declared.fault.ImageFault.{ImageFault}
use Rattle.bpf.specs.declared.fault.ImageFault.TheVariants as image_faults
use Rattle.bpf.specs.Program.{Program, IsProgram, image_bytes}
use Rattle.bpf.specs.Reading.{FailsReading, image_reading}
use Rattle.bver_form.specs.Codes.{refusal_code, refusal_of_code}
use Rattle.bver_form.specs.declared.refusal.Refusal.{Refusal}
use Rattle.bver_form.specs.declared.refusal.Refusal.TheVariants as refusals
use Rattle.bver_form.specs.declared.refusal.Refused.{Refused}
use Rattle.bver.specs.Refusals.{IsRefusal}
use Rattle.bver.specs.Justified.{AcceptedValue, IsJustified}
use Rattle.machine.specs.Sizes.{Maps}
use Rattle.rmap.specs.declared.boot.TheConstants.{LAST_SLOT, STAGING_SIZE}
use Rattle.rmap.specs.declared.boot_records.ControlData.{ControlData}
use Rattle.rmap.specs.declared.boot_records.LoadResult.{LoadResult}
use Rattle.rmap.specs.BootRecords.{load_result_bytes}
use Rattle.node_programs.specs.declared.faults.PublishFault.{PublishFault}
use Rattle.node_programs.specs.declared.faults.PublishFault.TheVariants as publish_faults
use Rattle.node_parts.specs.declared.refusal.LoadRefusal.{LoadRefusal}
use Rattle.node_parts.specs.declared.refusal.LoadRefusal.TheVariants.{Control, Slot, Image, Program as Unverified}
use Rattle.node_parts.specs.declared.refusal.LoadRefusal.TheVariants.{Memory, GenerationsFull}

-- what is wrong with control data: first its second byte and its length, then its slot
abbrev pub control_fault : ControlData → Option LoadRefusal
control_fault control =
    if not (control.zero == 0) || nat_lt STAGING_SIZE control.length then Some Control
    else if nat_lt LAST_SLOT control.slot then Some Slot
    else None

-- The number of a refusal. That of an image has 32 more than its fault, and the verifier's has its own.
abbrev pub load_refusal_code : LoadRefusal → ℕ
load_refusal_code Control = 71
load_refusal_code Slot = 66
load_refusal_code (Image fault) = 32 + image_fault_code fault
load_refusal_code (Unverified refused) = refusal_code refused.code
load_refusal_code Memory = 65
load_refusal_code GenerationsFull = 67

-- the fault that the number of an image's fault names: of an instruction's faults `Opcode` at slot 0
abbrev pub named_fault : ImageFault → ImageFault
named_fault image_faults.Magic = image_faults.Magic
named_fault image_faults.Version = image_faults.Version
named_fault image_faults.Length = image_faults.Length
named_fault image_faults.Count = image_faults.Count
named_fault image_faults.Budget = image_faults.Budget
named_fault image_faults.Loop = image_faults.Loop
named_fault (image_faults.Insn slot fault) = image_faults.Insn 0 Opcode
named_fault image_faults.Memory = image_faults.Memory

-- the refusal that a code names, without the slot
abbrev pub named_refusal : LoadRefusal → LoadRefusal
named_refusal Control = Control
named_refusal Slot = Slot
named_refusal (Image fault) = Image (named_fault fault)
named_refusal (Unverified refused) = Unverified (record { code = refused.code; slot = 0 })
named_refusal Memory = Memory
named_refusal GenerationsFull = GenerationsFull

-- the refusal of a code, of the fault of an image or of the verifier, if it is the code of one
abbrev pub program_refusal_of_code : ℕ → Option LoadRefusal
program_refusal_of_code code =
    if nat_lt code 32 then option_map (λ r. Unverified (record { code = r; slot = 0 })) (refusal_of_code code)
    else option_map Image (image_fault_of_code (code - 32))

-- the refusal of a code, if it is the code of one
abbrev pub load_refusal_of_code : ℕ → Option LoadRefusal
load_refusal_of_code code =
    if code == 65 then Some Memory
    else (if code == 66 then Some Slot
    else (if code == 67 then Some GenerationsFull
    else (if code == 71 then Some Control
    else program_refusal_of_code code)))

-- the slot of the image at which a load was refused, or 0 if there is none
abbrev pub load_refusal_slot : LoadRefusal → ℕ
load_refusal_slot Control = 0
load_refusal_slot Slot = 0
load_refusal_slot (Image fault) = image_fault_slot fault
load_refusal_slot (Unverified refused) = refused.slot
load_refusal_slot Memory = 0
load_refusal_slot GenerationsFull = 0

-- memory was refused to the image
abbrev pub wants_image_memory : ImageFault → Bool
wants_image_memory image_faults.Magic = false
wants_image_memory image_faults.Version = false
wants_image_memory image_faults.Length = false
wants_image_memory image_faults.Count = false
wants_image_memory image_faults.Budget = false
wants_image_memory image_faults.Loop = false
wants_image_memory (image_faults.Insn slot fault) = false
wants_image_memory image_faults.Memory = true

-- memory was refused to the verifier
abbrev pub wants_verifier_memory : Refusal → Bool
wants_verifier_memory refusals.Target = false
wants_verifier_memory refusals.BackJump = false
wants_verifier_memory refusals.LoopShape = false
wants_verifier_memory refusals.LoopEntry = false
wants_verifier_memory refusals.Unset = false
wants_verifier_memory refusals.KindMismatch = false
wants_verifier_memory refusals.OutOfRegion = false
wants_verifier_memory refusals.UnsetStack = false
wants_verifier_memory refusals.HeaderWrite = false
wants_verifier_memory refusals.FrameWrite = false
wants_verifier_memory refusals.PointerRange = false
wants_verifier_memory refusals.MapKey = false
wants_verifier_memory refusals.Helper = false
wants_verifier_memory refusals.FallOff = false
wants_verifier_memory refusals.Budget = false
wants_verifier_memory refusals.Unsupported = false
wants_verifier_memory refusals.Memory = true
wants_verifier_memory refusals.MapKind = false

-- memory was refused to the image, to the verifier or to publishing
abbrev pub wants_memory : LoadRefusal → Bool
wants_memory Control = false
wants_memory Slot = false
wants_memory (Image fault) = wants_image_memory fault
wants_memory (Unverified refused) = wants_verifier_memory refused.code
wants_memory Memory = true
wants_memory GenerationsFull = false

-- the staged bytes that a load reads
abbrev pub loaded_bytes : ControlData → List ℕ → List ℕ
loaded_bytes control staged = take control.length staged

-- the bytes spell no image, and the refusal has a fault of an image
pub record IsUnspelled (bytes : List ℕ) (refusal : LoadRefusal) : Type 0 where
  pub fault : ImageFault
  pub is : refusal ≡ Image fault
  pub no_want : fault ≢ image_faults.Memory
  pub unspelled : (p : Program) → IsProgram p → bytes ≢ image_bytes p

-- the fault that the refusal has of an image is the first in the order of an image's parts, unless memory was refused
abbrev pub IsFirstFault : List ℕ → LoadRefusal → Type 0
IsFirstFault bytes refusal = (fault : ImageFault) → refusal ≡ Image fault → FailsReading fault (image_reading bytes)

-- The bytes spell a program, which the verifier refused for these maps. The refusal says why, and nothing justifies the
-- program.
pub record IsUnverified (bytes : List ℕ) (sizes : Maps) (refusal : LoadRefusal) : Type 0 where
  pub program : Program
  pub is_program : IsProgram program
  pub spelled : bytes ≡ image_bytes program
  pub refused : Refused
  pub is : refusal ≡ Unverified refused
  pub no_want : refused.code ≢ refusals.Memory
  pub why : IsRefusal program refused
  pub unjustified : IsJustified program sizes → ⊥

-- Why nothing can be published, by what is wrong with the control data. The refusal says that exactly if something is.
abbrev pub IsUnpreparedBy : Option LoadRefusal → List ℕ → Maps → LoadRefusal → Type 0
IsUnpreparedBy (Some fault) bytes sizes refusal = refusal ≡ fault
IsUnpreparedBy None bytes sizes refusal = IsUnspelled bytes refusal ⊎ IsUnverified bytes sizes refusal

-- why nothing can be published, in a node with these maps
abbrev pub IsUnprepared : ControlData → (staged : List ℕ) → Maps → LoadRefusal → Type 0
IsUnprepared control staged sizes refusal =
    IsUnpreparedBy (control_fault control) (loaded_bytes control staged) sizes refusal

-- the control data are right, and the staged bytes spell that program, which is justified for those sizes
pub record IsPrepared (control : ControlData) (staged : List ℕ) (sizes : Maps) (slot : ℕ)
    (a : AcceptedValue) : Type 0 where
  pub control_is_right : control_fault control ≡ None
  pub slot_is : slot ≡ control.slot
  pub few : slot ≤ LAST_SLOT
  pub is_program : IsProgram a.program
  pub spelled : loaded_bytes control staged ≡ image_bytes a.program
  pub justified : IsJustified a.program sizes
  pub sizes_are : a.sizes ≡ sizes

-- memory was refused to the verifier, a refusal of the whole program
abbrev pub verifier_memory : Refused
verifier_memory = record { code = refusals.Memory; slot = 0 }

-- memory was refused to the image that bytes spell, or to the verifier of the program that they spell
abbrev pub WantsToVerify : List ℕ → LoadRefusal → Type 0
WantsToVerify bytes refusal =
    (refusal ≡ Image image_faults.Memory)
    ⊎ ((p : Program) × IsProgram p × (bytes ≡ image_bytes p) × (refusal ≡ Unverified verifier_memory))

-- memory was refused to what comes before publishing: to the image, or to the verifier
pub data WantsToPrepare (control : ControlData) (staged : List ℕ) (refusal : LoadRefusal) : Type 0 where
  of_image : control_fault control ≡ None → refusal ≡ Image image_faults.Memory → WantsToPrepare control staged refusal
  of_verifier : control_fault control ≡ None → (p : Program) → IsProgram p → loaded_bytes control staged ≡ image_bytes p
      → refusal ≡ Unverified verifier_memory → WantsToPrepare control staged refusal

-- the load result of a refusal: its code, its place, and generation 0
abbrev pub refused_load : LoadRefusal → LoadResult
refused_load r = record { code = load_refusal_code r; place = load_refusal_slot r; generation = 0 }

-- the bytes of the load result of a refusal
abbrev pub refused_result : LoadRefusal → List ℕ
refused_result r = load_result_bytes (refused_load r)

-- the bytes of the load result of a program that was published with that generation
abbrev pub published_result : (generation : ℕ) → List ℕ
published_result n = load_result_bytes (record { code = 0; place = 0; generation = n })

-- the refusal in publishing
abbrev pub refusal_of_publishing : PublishFault → LoadRefusal
refusal_of_publishing publish_faults.Memory = Memory
refusal_of_publishing publish_faults.Slot = Slot
refusal_of_publishing publish_faults.GenerationsFull = GenerationsFull
