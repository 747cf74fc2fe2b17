-- How far a packet comes by itself.
use Rattle.std.specs.Prelude.{◌≡◌, ℕ, List, []}
use Rattle.spw.specs.Cargo.{Cargo}
use Rattle.rmap.specs.Command.{command_of}
use Rattle.bver.specs.Justified.{AcceptedValue}
use Rattle.annals.specs.Shown.{IsTakenAtMoment}
use Rattle.annals.specs.declared.deed.HistoryEntry.{HistoryEntry}
use Rattle.bank.specs.Records.{AdmittedValue, JudgedValue}
use Rattle.node_programs.specs.declared.publishes.Publish.{Publish}
use Rattle.node_parts.specs.Passes.{PassValue, RunContextValue}
use Rattle.node_parts.specs.Steps.{IsJudgedOnce, IsJudgement, IsStopped, IsTaken, IsUnread}
use Rattle.target.specs.declared.step.Step.{Step}
use Rattle.target.specs.declared.step.Step.TheVariants.{Discarded, Answered, Unread, Judged}
use Rattle.node_parts.specs.declared.stop.Stop.TheVariants.{Discarded as NoCommand, Answered as Fault}

-- the admitted command was judged once, by the program that was taken in the slot of its place
pub record IsJudgedByTaken (known seen : List Publish) (old new : RunContextValue) (admitted : AdmittedValue)
    (j : JudgedValue) : Type 0 where
  pub program : AcceptedValue
  pub taken : IsTaken known seen (command_of admitted.packet) admitted.place program j.generation
  pub once : IsJudgedOnce program j.generation old new admitted j

-- the programs by which a command was judged are those that readers saw at one moment of the history
abbrev pub IsAtMoment : Step → (known reached : List HistoryEntry) → (after : PassValue) → Type 0
IsAtMoment (Discarded d back) known reached after = Unit {0}
IsAtMoment (Answered status back) known reached after = Unit {0}
IsAtMoment (Unread back) known reached after = Unit {0}
IsAtMoment (Judged j) known reached after = IsTakenAtMoment known reached after.programs

-- How far a packet comes by itself, what becomes of the port, and the reply that is due then. A program runs only for a
-- command that is judged, and for that one it runs once.
abbrev pub IsPacketStep : Step → Cargo → (before after : PassValue) → List ℕ → Type 0
IsPacketStep (Discarded d back) p h after reply = (back ≡ p) × (after ≡ h) × IsStopped (NoCommand d) p h.windows reply
IsPacketStep (Answered status back) p h after reply = (back ≡ p) × (after ≡ h) × IsStopped (Fault status) p h.windows reply
IsPacketStep (Unread back) p h after reply = (back ≡ p) × (after ≡ h) × IsUnread p h.windows reply
IsPacketStep (Judged j) p h after reply = IsJudgement h after p j × (reply ≡ [])
