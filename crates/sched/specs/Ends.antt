-- How a judged command of a world ends, whatever the history.
use Rattle.std.specs.Prelude.{◌≡◌, ◌<◌, ℕ, ◌+◌, true, List, [], length, slice_get, slice_index_or, slice_set}
use Rattle.std.specs.Prelude.{Option, Some, None}
use Rattle.rmap.specs.declared.places.Place.{Place}
use Rattle.rmap.specs.declared.places.Place.TheVariants as places
use Rattle.rmap.specs.declared.status.Status.{Status}
use Rattle.rmap.specs.declared.status.Status.TheVariants.{Success, GeneralError}
use Rattle.rmap.specs.Command.{command_of}
use Rattle.rmap.specs.Reply.{reply_of}
use Rattle.rmap.specs.Windows.{WindowsValue}
use Rattle.machine.specs.Sizes.{Maps}
use Rattle.bver.specs.Justified.{AcceptedValue}
use Rattle.bank.specs.Admission.{IsPlacedBy}
use Rattle.bank.specs.Answer.{judged_line}
use Rattle.bank.specs.Records.{BankValue, JudgedValue, ShareValue, answer_of, after_command, first_share, fits}
use Rattle.bank.specs.Records.{memory_of, next_share}
use Rattle.node_programs.specs.Staged.{Staged, staged}
use Rattle.rmap.specs.declared.boot_records.ControlData.{ControlData}
use Rattle.node_parts.specs.Loads.{published_result, refused_result}
use Rattle.rmap.specs.BootRecords.{control_of}
use Rattle.node_parts.specs.Outcomes.{IsLoad}
use Rattle.node_parts.specs.Outcomes as loads
use Rattle.node_parts.specs.Stagings.{IsStaged}
use Rattle.sched.specs.declared.control.Decision.{Decision}
use Rattle.sched.specs.declared.control.Decision.TheVariants.{Stopped, NotLoaded, Loaded}
use Rattle.sched.specs.Worlds.{PortValue, RunValue}

-- the command that is judged, with that verdict
abbrev pub judged_with : (port verdict : ℕ) → RunValue → JudgedValue
judged_with port verdict r = record {
  packet = r.packet;
  place = r.place;
  port = port;
  generation = r.generation;
  verdict = verdict;
}

-- the share that a port has of bank k
abbrev pub share_in : PortValue → (k port : ℕ) → ShareValue
share_in p k port = slice_index_or p.shares k (first_share port)

-- a port with another share of bank k
abbrev pub with_share_in : PortValue → (k : ℕ) → ShareValue → PortValue
with_share_in p k share = record p { shares = slice_set p.shares k share }

-- there is bank k, and the judged command fits it with the share of its port
pub record FitsBank (banks : List BankValue) (p : PortValue) (k : ℕ) (judged : JudgedValue) : Type 0 where
  pub bank : BankValue
  pub there : slice_get banks k ≡ Some bank
  pub shared : k < length p.shares
  pub fits_it : fits bank (share_in p k judged.port) judged ≡ true

-- a judged command can end at that place by an Effect: at a bank that it fits, or at the port's staging
abbrev pub CanEnd : Place → List BankValue → PortValue → JudgedValue → Type 0
CanEnd (places.Bank k) banks p judged = FitsBank banks p k judged
CanEnd places.Staging banks p judged = Unit {0}
CanEnd places.LoadResult banks p judged = Unit {0}
CanEnd places.Control banks p judged = ⊥

-- It ended at bank k. Status and reply are those of its answer there, and the bank and the port's share count its
-- entry.
pub record EndsAtBank (k : ℕ) (old new : List BankValue) (p q : PortValue) (judged : JudgedValue) (status : Status)
    (reply : List ℕ) : Type 0 where
  pub bank : BankValue
  pub there : slice_get old k ≡ Some bank
  pub status_is : status ≡ (answer_of bank judged).status
  pub memory_is : memory_of (after_command bank (share_in p k judged.port) judged) ≡ (answer_of bank judged).memory
  pub reply_is : reply ≡ (answer_of bank judged).reply
  pub banks_are : new ≡ slice_set old k (after_command bank (share_in p k judged.port) judged)
  pub port_is : q ≡ with_share_in p k (next_share bank (share_in p k judged.port) judged)

-- it ended at the staging of its port, and no bank changed
pub record EndsAtStaging (old new : List BankValue) (p q : PortValue) (judged : JudgedValue) (status : Status)
    (reply : List ℕ) : Type 0 where
  pub staged : IsStaged p.staging q.staging judged status reply
  pub banks_are : new ≡ old
  pub port_is : q ≡ record p { staging = q.staging }

-- how a judged command ends at that place by an Effect
abbrev pub EndsAt : Place → (old new : List BankValue) → (p q : PortValue) → JudgedValue → Status → (reply : List ℕ)
    → Type 0
EndsAt (places.Bank k) old new p q judged status reply = EndsAtBank k old new p q judged status reply
EndsAt places.Staging old new p q judged status reply = EndsAtStaging old new p q judged status reply
EndsAt places.LoadResult old new p q judged status reply = EndsAtStaging old new p q judged status reply
EndsAt places.Control old new p q judged status reply = ⊥

-- The command that a port judges can end, with that verdict. Its bytes lie under those windows where its place says.
abbrev pub CanFinish : WindowsValue → List BankValue → (port verdict : ℕ) → PortValue → Option RunValue → Type 0
CanFinish windows banks port verdict p None = ⊥
CanFinish windows banks port verdict p (Some r) =
    IsPlacedBy windows r.packet r.place × CanEnd r.place banks (record p { run = None }) (judged_with port verdict r)

-- the command that a port judged ended, with that verdict, and the port judges none any more
abbrev pub HasPortFinished : (old new : List BankValue) → (port verdict : ℕ) → (p q : PortValue) → Option RunValue → Status
    → (reply : List ℕ) → Type 0
HasPortFinished old new port verdict p q None status reply = ⊥
HasPortFinished old new port verdict p q (Some r) status reply =
    EndsAt r.place old new (record p { run = None }) q (judged_with port verdict r) status reply

-- ---- control writes

-- a control write is judged, and its bytes lie under those windows
abbrev pub IsWriteUnder : WindowsValue → Option RunValue → Type 0
IsWriteUnder windows None = ⊥
IsWriteUnder windows (Some r) = IsPlacedBy windows r.packet r.place × (r.place ≡ places.Control)

-- the reply to the command that is judged, with that status and no data
abbrev pub IsReplyTo : Option RunValue → Status → (reply : List ℕ) → Type 0
IsReplyTo None status reply = ⊥
IsReplyTo (Some r) status reply = reply ≡ reply_of (command_of r.packet) status []

-- what becomes of a load after that many publishes: it is refused, or a program is shown with the next generation
abbrev pub IsLoadDecision : ControlData → (staged : List ℕ) → Maps → (count : ℕ) → Decision → Type 0
IsLoadDecision control staged sizes count (Stopped status) = ⊥
IsLoadDecision control staged sizes count (NotLoaded refusal) =
    IsLoad control staged sizes (count + 1) (loads.Refused refusal)
IsLoadDecision control staged sizes count (Loaded slot shown) =
    IsLoad control staged sizes (count + 1) (loads.Published slot shown.0) × (shown.1 ≡ count + 1)

-- what a control write comes to, by what stops it: if nothing does, a load decides
abbrev pub IsDecisionBy : Option Status → ControlData → (staged : List ℕ) → Maps → (count : ℕ) → Decision → Type 0
IsDecisionBy (Some status) control staged sizes count decision = decision ≡ Stopped status
IsDecisionBy None control staged sizes count decision = IsLoadDecision control staged sizes count decision

-- what the control write that is judged comes to, with that verdict
abbrev pub IsDecisionOf : Option RunValue → (staged : List ℕ) → (verdict : ℕ) → Maps → (count : ℕ) → Decision → Type 0
IsDecisionOf None staged verdict sizes count decision = ⊥
IsDecisionOf (Some r) staged verdict sizes count decision =
    IsDecisionBy (judged_line (command_of r.packet) verdict) (control_of (command_of r.packet).body) staged sizes count
    decision

-- the status of a control write
abbrev pub status_of_decision : Decision → Status
status_of_decision (Stopped status) = status
status_of_decision (NotLoaded refusal) = GeneralError
status_of_decision (Loaded slot shown) = Success

-- the load result, if a load was decided
abbrev pub load_result_of_decision : Decision → Option (List ℕ)
load_result_of_decision (Stopped status) = None
load_result_of_decision (NotLoaded refusal) = Some (refused_result refusal)
load_result_of_decision (Loaded slot shown) = Some (published_result shown.1)

-- a staging with that load result, if there is one
abbrev pub load_result_kept : Option (List ℕ) → Staged → Staged
load_result_kept None s = s
load_result_kept (Some loaded) s = staged s.bytes loaded

-- A port whose control write ended: it judges none, and the staging keeps the load result if a load was decided.
abbrev pub after_control_write : Option (List ℕ) → PortValue → PortValue
after_control_write loaded p = record p { run = None; staging = load_result_kept loaded p.staging }

-- the programs of the slots after a control write
abbrev pub programs_shown : List (AcceptedValue × ℕ) → Decision → List (AcceptedValue × ℕ)
programs_shown programs (Stopped status) = programs
programs_shown programs (NotLoaded refusal) = programs
programs_shown programs (Loaded slot shown) = slice_set programs slot shown

-- the slot of a program that is shown is there
abbrev pub ShowsInSlot : Decision → Type 0
ShowsInSlot (Stopped status) = Unit {0}
ShowsInSlot (NotLoaded refusal) = Unit {0}
ShowsInSlot (Loaded slot shown) = slot < 4

-- how many programs were published after it
abbrev pub count_shown : ℕ → Decision → ℕ
count_shown count (Stopped status) = count
count_shown count (NotLoaded refusal) = count
count_shown count (Loaded slot shown) = shown.1
