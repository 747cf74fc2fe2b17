-- How a judged control write ends.
use Rattle.std.specs.Prelude.{◌≡◌, ◌⊎◌, ℕ, List, [], ◌∷◌, ◌++◌, length, Option, Some, None}
use mathlib.Core.List.{IsPrefix}
use Rattle.rmap.specs.declared.status.Status.{Status}
use Rattle.rmap.specs.declared.status.Status.TheVariants.{Success, GeneralError}
use Rattle.rmap.specs.Command.{command_of}
use Rattle.rmap.specs.Reply.{reply_of}
use Rattle.bank.specs.Answer.{judged_line}
use Rattle.bank.specs.Records.{JudgedValue}
use Rattle.bver.specs.Justified.{AcceptedValue}
use Rattle.node_programs.specs.Histories.{longer_history}
use Rattle.node_programs.specs.Published.{sizes_of}
use Rattle.node_programs.specs.declared.publishes.Publish.{Publish}
use Rattle.node_programs.specs.Staged.{staged}
use Rattle.rmap.specs.declared.boot_records.ControlData.{ControlData}
use Rattle.node_parts.specs.declared.refusal.LoadRefusal.{LoadRefusal}
use Rattle.node_parts.specs.Passes.{PassValue}
use Rattle.node_parts.specs.Loads.{published_result, refused_result}
use Rattle.rmap.specs.BootRecords.{control_of}
use Rattle.node_parts.specs.Outcomes.{IsLoad, IsLoadRefusal, Published}

-- what a control write asks for
abbrev pub control_in : JudgedValue → ControlData
control_in j = control_of (command_of j.packet).body

-- The staged program was published for the slot that the control data ask, with that generation. The reader keeps what
-- it knew, and knows all that was published, and nothing else.
pub record IsPublished (control : ControlData) (staged : List ℕ) (old new known seen : List Publish)
    (generation : ℕ) : Type 0 where
  pub slot : ℕ
  pub program : AcceptedValue
  pub load : IsLoad control staged (sizes_of old) (length old) (Published slot program)
  pub extends : new ≡ longer_history old slot program
  pub place : generation ≡ length old
  pub reported : IsPrefix new seen
  pub keeps : IsPrefix known seen
  pub learnt : seen ≡ new

-- a port that has learnt of these publishes, with that load result
abbrev pub after_load : PassValue → (seen : List Publish) → (load_result : List ℕ) → PassValue
after_load h seen load_result = record h { programs = seen; staging = staged h.staging.bytes load_result }

-- a program was published by a port, which noted that
pub record HasNoted {K : Type 0} (notes : K → Publish → K → Type 0) (had has : K) (old new : List Publish) : Type 0 where
  pub publish : Publish
  pub longer : new ≡ old ++ publish ∷ []
  pub noted : notes had publish has

-- A port published one program and noted that, or nothing was published, and the port has what it had.
abbrev pub NotesPublish : {K : Type 0} → (K → Publish → K → Type 0) → (had has : K) → (old new : List Publish) → Type 0
NotesPublish notes had has old new = HasNoted notes had has old new ⊎ ((new ≡ old) × (has ≡ had))

-- the staged program was published, and the load result has its generation
pub record HasLoaded (holder after : PassValue) (old new : List Publish) (j : JudgedValue)
    (result : Status) : Type 0 where
  pub generation : ℕ
  pub published : IsPublished (control_in j) holder.staging.bytes old new holder.programs after.programs generation
  pub status : result ≡ Success
  pub holder_after : after ≡ after_load holder after.programs (published_result generation)

-- the load was refused, as the load result says, and nothing else changed
pub record HasRefused (holder after : PassValue) (old new : List Publish) (j : JudgedValue)
    (result : Status) : Type 0 where
  pub refusal : LoadRefusal
  pub refused : IsLoadRefusal (control_in j) holder.staging.bytes (sizes_of old) (length old) refusal
  pub status : result ≡ GeneralError
  pub same : new ≡ old
  pub holder_after : after ≡ after_load holder holder.programs (refused_result refusal)

-- how a judged control write ends, by what stops it: if nothing does, the load decides
abbrev pub EndsAs : Option Status → (holder after : PassValue) → (old new : List Publish) → JudgedValue → Status
    → Type 0
EndsAs (Some status) holder after old new j result = (result ≡ status) × (after ≡ holder) × (new ≡ old)
EndsAs None holder after old new j result =
    HasLoaded holder after old new j result ⊎ HasRefused holder after old new j result

-- how a judged control write ends: first the verdict decides, then the body, then the load
pub record IsLoadEnd (holder after : PassValue) (old new : List Publish) (j : JudgedValue) (result : Status)
    (bytes : List ℕ) : Type 0 where
  pub ended : EndsAs (judged_line (command_of j.packet) j.verdict) holder after old new j result
  pub reply : bytes ≡ reply_of (command_of j.packet) result []
