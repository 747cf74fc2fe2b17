-- What becomes of a load: a choice of this target.
use Rattle.std.specs.Prelude.{◌≡◌, ◌<◌, ◌≤◌, ◌⊎◌, ◌^◌, ℕ, List}
use Rattle.bver.specs.Justified.{AcceptedValue}
use Rattle.machine.specs.Sizes.{Maps}
use Rattle.rmap.specs.declared.boot_records.ControlData.{ControlData}
use Rattle.node_parts.specs.declared.refusal.LoadRefusal.{LoadRefusal}
use Rattle.node_parts.specs.declared.refusal.LoadRefusal.TheVariants as load_refusals
use Rattle.node_parts.specs.Loads.{IsPrepared, IsUnprepared, WantsToPrepare}

-- what becomes of a load: a program is published for a slot, or the load is refused
pub data Load : Type 0 where
  Published : (slot : ℕ) → AcceptedValue → Load
  Refused : LoadRefusal → Load

-- What becomes of a load with those control data and those staged bytes, in a node with maps of those sizes. The node's
-- history has that many programs, with the factory program.
abbrev pub IsLoad : ControlData → (staged : List ℕ) → Maps → (count : ℕ) → Load → Type 0
IsLoad control staged sizes count (Published slot program) =
    IsPrepared control staged sizes slot program × (count < 2 ^ 32)
IsLoad control staged sizes count (Refused refusal) =
    IsUnprepared control staged sizes refusal
    ⊎ ((slot : ℕ) × (program : AcceptedValue) × IsPrepared control staged sizes slot program × (2 ^ 32 ≤ count)
    × (refusal ≡ load_refusals.GenerationsFull))

-- Memory was refused to a running load: to what comes before publishing, or to publishing if generations are not full.
pub data WantsMemory (control : ControlData) (staged : List ℕ) (sizes : Maps) (count : ℕ) (refusal : LoadRefusal) : Type
    0 where
  preparing : WantsToPrepare control staged refusal → WantsMemory control staged sizes count refusal
  publishing : (slot : ℕ) → (program : AcceptedValue) → IsPrepared control staged sizes slot program → count < 2 ^ 32
      → refusal ≡ load_refusals.Memory → WantsMemory control staged sizes count refusal

-- why a running load is refused: as a load is, or for lack of memory
abbrev pub IsLoadRefusal : ControlData → (staged : List ℕ) → Maps → (count : ℕ) → LoadRefusal → Type 0
IsLoadRefusal control staged sizes count refusal =
    IsLoad control staged sizes count (Refused refusal) ⊎ WantsMemory control staged sizes count refusal
