-- The packets of a suite: what each meets, and what is printed of them.
use Rattle.std.specs.Prelude.{◌≡◌, ℕ, List, [], ◌∷◌, ◌++◌, Bool, true, Some, None, All}
use Rattle.bver.specs.Justified.{AcceptedValue}
use Rattle.node_parts.specs.Slots.{slot_of}
use Rattle.rmap.specs.Checks.{body_line}
use Rattle.rmap.specs.Command.{command_kind, command_of}
use Rattle.rmap.specs.Windows.{WindowsValue}
use Rattle.rmap.specs.declared.places.Place.{Place}
use Rattle.spw.specs.Cargo.{Cargo}
use Rattle.spw.specs.Written.{packet_line}
use Rattle.job_suite.specs.Checks.{PassesHeader, Meets}
use Rattle.job_suite.specs.Judges.{HasJudgedAtPortZero, judge_of}
use Rattle.job_suite.specs.Reach.{is_printed}
use Rattle.job_suite.specs.Rows.{wanted_of}
use Rattle.job_suite.specs.declared.judges.Judges.{Judges}
use Rattle.job_suite.specs.declared.comings.PacketOutcome.{PacketOutcome}
use Rattle.job_suite.specs.declared.comings.PacketOutcome.TheVariants as comings
use Rattle.job_suite.specs.declared.rows.Wanted.{Wanted}
use Rattle.job_suite.specs.declared.rows.Wanted.TheVariants.{Stopped, Brought, Judged, Spoilt, Whole}
use Rattle.job_suite.specs.declared.trials.Bench.{Bench}
use Rattle.job_suite.specs.declared.trials.Trial.{Trial}

-- the packet comes to the program of its slot at the node, which had a run on its header at port 0, on cells that
-- nobody asked. The run ends with the verdict
pub record IsTrialVerdict (b : Bench) (p : Cargo) (verdict : ℕ) : Type 0 where
  pub place : Place
  pub goes_on : PassesHeader b.windows p place
  pub answered : HasJudgedAtPortZero (judge_of b.judges (slot_of (command_kind (command_of p)) place)) (command_of p) verdict

-- the packet comes to the program of its slot
pub record IsBrought (b : Bench) (p : Cargo) : Type 0 where
  pub verdict : ℕ
  pub is : IsTrialVerdict b p verdict

-- the packet meets what is wanted: the first line of the order of checks that holds is this one; or it comes to its
-- program. Or the program gives this verdict; or it lets the packet pass, and the first check of its body that holds
-- has this status, or none holds
abbrev pub IsMet : Bench → Cargo → Wanted → Type 0
IsMet b p (Stopped check) = Meets b.windows p check
IsMet b p Brought = IsBrought b p
IsMet b p (Judged verdict) = IsTrialVerdict b p verdict
IsMet b p (Spoilt status) = IsTrialVerdict b p 0 × (body_line (command_of p) ≡ Some status)
IsMet b p Whole = IsTrialVerdict b p 0 × (body_line (command_of p) ≡ None)

-- the packet comes to that at the node
abbrev pub HasCome : Bench → Cargo → PacketOutcome → Type 0
HasCome b p (comings.Stopped check) = Meets b.windows p check
HasCome b p (comings.Judged verdict fault) = IsTrialVerdict b p verdict × (body_line (command_of p) ≡ fault)

-- the packet meets its row, and changes memory only at places that may be changed, whatever a target makes of it
pub record IsTrial (b : Bench) (t : Trial) : Type 0 where
  pub met : IsMet b t.packet (wanted_of t.row)
  pub harmless : is_printed b.ranges.items b.loads t.packet.bytes ≡ true

-- each packet does
abbrev pub AreTrials : Bench → List Trial → Type 0
AreTrials b trials = All (IsTrial b) trials

-- the packet line of a packet at port 0, with its line feed (10)
abbrev pub trial_line : Trial → List ℕ
trial_line t = packet_line 0 t.packet ++ 10 ∷ []

-- a text, and after it the packet lines of these packets, in order
abbrev pub with_lines : (text : List ℕ) → List Trial → List ℕ
with_lines text [] = text
with_lines text (t ∷ trials) = with_lines (text ++ trial_line t) trials

-- the packet lines of these packets
abbrev pub trial_lines_of : List Trial → List ℕ
trial_lines_of trials = with_lines [] trials
