-- Laws of loads.
use Rattle.std.specs.Prelude.{◌≡◌, ◌≢◌, ◌<◌, ◌≤◌, ◌⊎◌, ◌^◌, ◌↔◌, ℕ, List, Some, false, length}
use mathlib.Core.List.{IsPrefix}
use Rattle.spw.specs.Cargo.{Cargo}
use Rattle.rmap.specs.declared.status.Status.{Status}
use Rattle.rmap.specs.Command.{command_of, command_kind}
use Rattle.bpf.specs.Program.{Program, IsProgram, image_bytes}
use Rattle.machine.specs.Sizes.{Maps}
use Rattle.bver.specs.Justified.{IsJustified}
use Rattle.bank.specs.Records.{JudgedValue}
use Rattle.node_programs.specs.declared.publishes.Publish.{Publish}
use Rattle.node_programs.specs.Laws.{IsThatOrLater}
use Rattle.rmap.specs.declared.boot_records.ControlData.{ControlData}
use Rattle.node_parts.specs.declared.refusal.LoadRefusal.{LoadRefusal}
use Rattle.node_parts.specs.Slots.{slot_of}
use Rattle.node_parts.specs.Passes.{PassValue}
use Rattle.node_parts.specs.Steps.{IsJudgement}
use Rattle.node_parts.specs.Loads.{control_fault, load_refusal_code, load_refusal_slot, loaded_bytes, wants_memory}
use Rattle.node_parts.specs.Outcomes.{IsLoad, Refused}
use Rattle.node_parts.specs.Loaded.{HasLoaded}

-- the code is one of control data that are not right
abbrev pub IsControlCode : ℕ → Type 0
IsControlCode code = (code ≡ 71) ⊎ (code ≡ 66)

-- the code is one of the verifier's, except lack of memory: 1 to 16, or 18
abbrev pub IsVerifierCode : ℕ → Type 0
IsVerifierCode code = (code ≤ 16) ⊎ (code ≡ 18)

-- What a refusal says. Its code is 71 or 66 exactly if the control data are wrong, and 33 to 39 only if the bytes spell
-- no image. It is 1 to 16 or 18 only if they spell one that nothing justifies for these maps, at the slot of which it
-- speaks. It is 67 only after 2^32 - 1 publishes. With every other code except 39, which is an instruction's, it has
-- place 0. Memory was not refused.
pub record SaysWhy (control : ControlData) (staged : List ℕ) (sizes : Maps) (count : ℕ)
    (refusal : LoadRefusal) : Type 0 where
  pub control_is_wrong : (control_fault control ≡ Some refusal) ↔ IsControlCode (load_refusal_code refusal)
  pub unspelled : 33 ≤ load_refusal_code refusal → load_refusal_code refusal ≤ 39 → (p : Program) → IsProgram p
      → loaded_bytes control staged ≢ image_bytes p
  pub spelled : IsVerifierCode (load_refusal_code refusal) → (p : Program) × IsProgram p
      × (loaded_bytes control staged ≡ image_bytes p) × (load_refusal_slot refusal < length p.slots)
      × (IsJustified p sizes → ⊥)
  pub full : load_refusal_code refusal ≡ 67 → 2 ^ 32 ≤ count
  pub unplaced : 33 ≤ load_refusal_code refusal → load_refusal_code refusal ≢ 39 → load_refusal_slot refusal ≡ 0
  pub no_want : wants_memory refusal ≡ false

-- the refusal of each load says why
abbrev pub RefusalsSayWhy : Type 0
RefusalsSayWhy =
    (control : ControlData) (staged : List ℕ) (sizes : Maps) (count : ℕ) (refusal : LoadRefusal)
    → IsLoad control staged sizes count (Refused refusal) → SaysWhy control staged sizes count refusal

-- after a port's own load, the loaded program or a later one judges each command that the loaded slot judges
abbrev pub LoadsAreTaken : Type 0
LoadsAreTaken =
    (holder left between after : PassValue) (old new : List Publish) (j next : JudgedValue) (result : Status)
    (p : Cargo)
    → (loaded : HasLoaded holder left old new j result) → IsPrefix left.programs between.programs
    → (judgement : IsJudgement between after p next)
    → slot_of (command_kind (command_of p)) next.place ≡ loaded.published.slot
    → IsThatOrLater loaded.published.program loaded.generation (judgement.program, next.generation)
