-- What becomes of a packet before memory is touched.
use Rattle.std.specs.Prelude.{◌≡◌, ◌<◌, ℕ, List, [], None, Some}
use mathlib.Core.List.{IsPrefix}
use Rattle.spw.specs.Cargo.{Cargo}
use Rattle.rmap.specs.declared.places.Place.{Place}
use Rattle.rmap.specs.declared.places.Place.TheVariants.{Bank}
use Rattle.rmap.specs.declared.status.Status.{Status}
use Rattle.rmap.specs.declared.status.Status.TheVariants.{GeneralError}
use Rattle.rmap.specs.Command.{CommandValue, command_of, command_kind, discard_of}
use Rattle.rmap.specs.Windows.{WindowsValue}
use Rattle.rmap.specs.Checks.{header_line}
use Rattle.rmap.specs.Reply.{reply_of}
use Rattle.bver.specs.Justified.{AcceptedValue, IsJustified}
use Rattle.bank.specs.Admission.{IsPlacedBy}
use Rattle.bank.specs.Records.{AdmittedValue, JudgedValue, judgement}
use Rattle.brun.specs.Runs.{header, RunsWithin}
use Rattle.machine.specs.declared.calls.Call.{Call}
use Rattle.node_programs.specs.declared.publishes.Publish.{Publish}
use Rattle.node_programs.specs.Published.{judging_program}
use Rattle.node_parts.specs.Slots.{slot_of}
use Rattle.node_parts.specs.Passes.{PassValue, RunContextValue, context_after, pass_after}
use Rattle.node_parts.specs.declared.stop.Stop.{Stop}
use Rattle.node_parts.specs.declared.stop.Stop.TheVariants.{Discarded as NoCommand, Answered as Fault}

-- the packet is a command, and no check of its header holds
pub record IsAllowedCommand (p : Cargo) (w : WindowsValue) : Type 0 where
  pub command : discard_of p.bytes ≡ None
  pub allowed : header_line (command_of p) w ≡ None

-- the packet is a command, and the first check of its header that holds has that status
pub record IsFaulty (p : Cargo) (w : WindowsValue) (status : Status) : Type 0 where
  pub command : discard_of p.bytes ≡ None
  pub stopped : header_line (command_of p) w ≡ Some status

-- the packet goes no further than its header, and that reply is due
abbrev pub IsStopped : Stop → Cargo → WindowsValue → List ℕ → Type 0
IsStopped (NoCommand d) p w reply = (discard_of p.bytes ≡ Some d) × (reply ≡ [])
IsStopped (Fault status) p w reply = IsFaulty p w status × (reply ≡ reply_of (command_of p) status [])

-- the packet was admitted as it came, with its place under those windows
pub record IsAdmission (admitted : AdmittedValue) (p : Cargo) (w : WindowsValue) : Type 0 where
  pub packet : admitted.packet ≡ p
  pub placed : IsPlacedBy w p admitted.place

-- nothing judged the command of the packet: the reply is a general error
pub record IsUnread (p : Cargo) (w : WindowsValue) (reply : List ℕ) : Type 0 where
  pub allowed : IsAllowedCommand p w
  pub error : reply ≡ reply_of (command_of p) GeneralError []

-- the place is a bank below n
abbrev pub IsBankBelow : Place → ℕ → Type 0
IsBankBelow place n = (k : ℕ) × (place ≡ Bank k) × (k < n)

-- the program has a run within its budget on the command's header, for that port and with those calls,
-- that ends with that verdict
abbrev pub IsVerdictOn : AcceptedValue → ℕ → List Call → CommandValue → ℕ → Type 0
IsVerdictOn program port calls c verdict =
    RunsWithin program.program (header c.front c.tail) port calls verdict

-- the same of the command of a packet
abbrev pub IsPacketVerdict : AcceptedValue → ℕ → List Call → Cargo → ℕ → Type 0
IsPacketVerdict program port calls p verdict = IsVerdictOn program port calls (command_of p) verdict

-- the program had one run on the command's header, which asked what the context's port asked more, and
-- ended with that verdict
pub record HasRun (program : AcceptedValue) (old new : RunContextValue) (c : CommandValue) (verdict : ℕ) : Type 0 where
  pub calls : List Call
  pub asked : new ≡ context_after old calls
  pub run : IsVerdictOn program old.port calls c verdict

-- the admitted command, judged for that port by the program of that generation, in a run with those calls
pub record IsJudgedBy (program : AcceptedValue) (generation port : ℕ) (calls : List Call) (admitted : AdmittedValue)
    (j : JudgedValue) : Type 0 where
  pub judged : j ≡ judgement admitted port generation j.verdict
  pub verdict : IsPacketVerdict program port calls admitted.packet j.verdict

-- the admitted command was judged in one run, and the context's port asked what that run asked
pub record IsJudgedOnce (program : AcceptedValue) (generation : ℕ) (old new : RunContextValue)
    (admitted : AdmittedValue) (j : JudgedValue) : Type 0 where
  pub calls : List Call
  pub asked : new ≡ context_after old calls
  pub judged : IsJudgedBy program generation old.port calls admitted j

-- The command of the packet as it came, with its place under those windows. The program of that generation judged it
-- for that port, in a run with those calls.
pub record IsJudgedFor (program : AcceptedValue) (generation port : ℕ) (w : WindowsValue) (calls : List Call)
    (p : Cargo) (j : JudgedValue) : Type 0 where
  pub packet : j.packet ≡ p
  pub placed : IsPlacedBy w p j.place
  pub port_of : j.port ≡ port
  pub generation_of : j.generation ≡ generation
  pub verdict : IsPacketVerdict program port calls p j.verdict

-- A list of publishes begins with what was known. In it the program of that generation is published in the slot of the
-- command's place, and it is justified.
pub record IsTaken (known seen : List Publish) (c : CommandValue) (place : Place) (program : AcceptedValue)
    (generation : ℕ) : Type 0 where
  pub longer : IsPrefix known seen
  pub shown : judging_program seen (slot_of (command_kind c) place) ≡ Some (program, generation)
  pub accepted : IsJustified program.program program.sizes

-- The command of the packet was judged in one run, by the program that the port took in the slot of its place. The port
-- asked what that run asked.
pub record IsJudgement (h after : PassValue) (p : Cargo) (j : JudgedValue) : Type 0 where
  pub seen : List Publish
  pub program : AcceptedValue
  pub calls : List Call
  pub taken : IsTaken h.programs seen (command_of p) j.place program j.generation
  pub asked : after ≡ pass_after h seen calls
  pub judged_for : IsJudgedFor program j.generation h.port h.windows calls p j
