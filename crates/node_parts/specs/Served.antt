-- The whole way of a packet, from its bytes to its reply.
use Rattle.std.specs.Prelude.{◌≡◌, ℕ, List, slice_get, slice_set, Some}
use Rattle.spw.specs.Cargo.{Cargo}
use Rattle.rmap.specs.declared.places.Place.{Place}
use Rattle.rmap.specs.declared.places.Place.TheVariants.{Bank, Staging, LoadResult, Control}
use Rattle.rmap.specs.declared.status.Status.{Status}
use Rattle.bank.specs.declared.bank.Applied.{Applied}
use Rattle.bank.specs.Records.{BankValue, ShareValue, JudgedValue}
use Rattle.node_programs.specs.declared.publishes.Publish.{Publish}
use Rattle.node_parts.specs.declared.served.Served.{Served}
use Rattle.node_parts.specs.declared.served.Served.TheVariants.{Stopped, Unread, Done, Window}
use Rattle.node_parts.specs.Passes.{PassValue, with_staging}
use Rattle.node_parts.specs.Steps.{IsStopped, IsUnread, IsJudgement}
use Rattle.node_parts.specs.Applied.{share_of, IsApplied, IsEndedAtBank}
use Rattle.node_parts.specs.Stagings.{IsStaged}
use Rattle.node_parts.specs.Loaded.{IsLoadEnd}

-- what all ports of a node share: its banks, and the programs that were published
pub record PartsValue : Type 0 where
  pub banks : List BankValue
  pub programs : List Publish

-- the parts of a node with these banks and programs
abbrev pub parts : List BankValue → List Publish → PartsValue
parts banks programs = record { banks = banks; programs = programs }

-- node and port are as they were
pub record IsUntouched (old new : PartsValue) (holder after : PassValue) : Type 0 where
  pub node : new ≡ old
  pub holder_after : after ≡ holder

-- a way in which a command can end at its bank
abbrev pub Ending : Type 1
Ending = BankValue → BankValue → ShareValue → PassValue → PassValue → JudgedValue → Applied → List ℕ → Type 0

-- the command was judged in one run, which left the port so, and ended only at the bank of its place
pub record IsDone (Ends : Ending) (old new : PartsValue) (holder after : PassValue) (p : Cargo) (result : Applied)
    (bytes : List ℕ) : Type 0 where
  pub judged : JudgedValue
  pub between : PassValue
  pub number : ℕ
  pub before : BankValue
  pub following : BankValue
  pub judgement : IsJudgement holder between p judged
  pub place : judged.place ≡ Bank number
  pub bank : slice_get old.banks number ≡ Some before
  pub node : new ≡ parts (slice_set old.banks number following) old.programs
  pub ended : Ends before following (share_of between judged.place) between after judged result bytes

-- the command ended at the port's own staging, and nothing else of the port changed
pub record IsStagedAt (holder after : PassValue) (judged : JudgedValue) (result : Status)
    (bytes : List ℕ) : Type 0 where
  pub staged : IsStaged holder.staging after.staging judged result bytes
  pub rest : after ≡ with_staging holder after.staging

-- how a command ends in the boot window, by its place, and what is published then: only a control write publishes
abbrev pub EndsAtWindow : Place → (holder after : PassValue) → (old new : List Publish) → JudgedValue → Status → List ℕ
    → Type 0
EndsAtWindow (Bank k) holder after old new judged result bytes = ⊥
EndsAtWindow Staging holder after old new judged result bytes =
    IsStagedAt holder after judged result bytes × (new ≡ old)
EndsAtWindow LoadResult holder after old new judged result bytes =
    IsStagedAt holder after judged result bytes × (new ≡ old)
EndsAtWindow Control holder after old new judged result bytes = IsLoadEnd holder after old new judged result bytes

-- The command was judged in one run, which left the port so, and ended in the boot window. No bank changed.
pub record IsWindowed (old new : PartsValue) (holder after : PassValue) (p : Cargo) (result : Status)
    (bytes : List ℕ) : Type 0 where
  pub judged : JudgedValue
  pub between : PassValue
  pub judgement : IsJudgement holder between p judged
  pub banks : new.banks ≡ old.banks
  pub ended : EndsAtWindow judged.place between after old.programs new.programs judged result bytes

-- what becomes of a packet, of the node and of the port, and the reply that is due, if commands end so
abbrev pub IsServedBy : Ending → Served → Cargo → (old new : PartsValue) → (holder after : PassValue) → List ℕ → Type 0
IsServedBy Ends (Stopped stop) p old new h after reply = IsStopped stop p h.windows reply × IsUntouched old new h after
IsServedBy Ends Unread p old new h after reply = IsUnread p h.windows reply × IsUntouched old new h after
IsServedBy Ends (Done result) p old new h after reply = IsDone Ends old new h after p result reply
IsServedBy Ends (Window result) p old new h after reply = IsWindowed old new h after p result reply

-- what becomes of a packet, whatever the node and the port
abbrev pub IsServed : Served → Cargo → (old new : PartsValue) → (holder after : PassValue) → List ℕ → Type 0
IsServed = IsServedBy IsEndedAtBank

-- what becomes of a packet if banks and port are paired: each command that is judged is applied
abbrev pub IsAnswered : Served → Cargo → (old new : PartsValue) → (holder after : PassValue) → List ℕ → Type 0
IsAnswered = IsServedBy IsApplied
