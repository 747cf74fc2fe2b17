-- What is printed of a packet, and the tickets that were drawn.
use Rattle.std.specs.Prelude.{◌≡◌, ℕ, List, [], Option, Some, None}
use Rattle.std.specs.Io.KnownBytes.{Appends}
use Rattle.machine.specs.declared.calls.Call.{Call}
use Rattle.machine.specs.Memory.{Header, header}
use Rattle.policy_table.specs.Counts.{after_draws, reported_on}
use Rattle.policy_table.specs.Matching.{matched}
use Rattle.policy_table.specs.Meaning.{decision}
use Rattle.policy_table.specs.Passing.{passed_rules}
use Rattle.policy_table.specs.Policies.{PolicyValue}
use Rattle.policy_table.specs.PortTables.{lines_at}
use Rattle.policy_table.specs.Ports.{rules_at}
use Rattle.policy_table.specs.declared.mismatches.Passed.{Passed}
use Rattle.policy_table.specs.declared.rules.Rule.{Rule}
use Rattle.rmap.specs.Checks.{header_check, header_status}
use Rattle.rmap.specs.Command.{CommandValue, command_of}
use Rattle.rmap.specs.Windows.{WindowsValue}
use Rattle.rmap.specs.declared.discard.Discard.{Discard}
use Rattle.rmap.specs.declared.header_faults.HeaderFault.{HeaderFault}
use Rattle.rmap.specs.declared.status.Status.{Status}
use Rattle.rmap.specs.declared.verdict.Verdict.{Verdict}
use Rattle.rmap.specs.declared.verdict.Verdict.TheVariants.{Authorised, InvalidKey, NotAuthorised, InvalidLogicalAddress}
use Rattle.spw.specs.Cargo.{Cargo}
use Rattle.job_nodes.specs.JudgeJob.{discard_line}
use Rattle.job_parts.specs.Printed.{PrintsMore}
use Rattle.job_parts.specs.declared.stops.LineEnd.{LineEnd}
use Rattle.job_parts.specs.declared.stops.LineEnd.TheVariants.{NoMemory}
use Rattle.job_decide.specs.DecideJob.{match_line, status_text}

-- why the rules before the one that decides do not match, if that one refuses
abbrev pub reported_passed : Verdict → List Rule → Header → (draws : List Call) → List Passed
reported_passed Authorised rules header draws = []
reported_passed InvalidKey rules header draws = passed_rules rules header draws
reported_passed NotAuthorised rules header draws = passed_rules rules header draws
reported_passed InvalidLogicalAddress rules header draws = passed_rules rules header draws

-- the rule by which a table of a port decides on the header of the command was printed, with its line among these, as
-- the counts answer its draws. More was printed after it, and the counts are those after its draws
pub record PrintsMatch (port : ℕ) (rules : List Rule) (lines : List ℕ) (c : CommandValue) (before after : List ℕ)
    (old new : Option (List ℕ)) : Type 0 where
  pub reported : Option (List ℕ)
  pub line : Appends old reported
      (match_line port lines (matched rules (header c.front c.tail) (reported_on before rules (header c.front c.tail))))
  pub more : PrintsMore reported new
  pub counts : after
      ≡ after_draws before (decision rules (header c.front c.tail) (reported_on before rules (header c.front c.tail))).0

-- the same of the rules that are asked at the port, in their lines
abbrev pub PrintsDecision : (port : ℕ) → PolicyValue → CommandValue → (before after : List ℕ) → (old new : Option (List ℕ)) → Type 0
PrintsDecision port policy c before after old new =
    PrintsMatch port (rules_at port policy.rules) (lines_at port policy.rules) c before after old new

-- the status of a command was printed, and more after it
pub record PrintsStatus (port : ℕ) (status : Status) (old new : Option (List ℕ)) : Type 0 where
  pub reported : Option (List ℕ)
  pub line : Appends old reported (status_text port status)
  pub more : PrintsMore reported new

-- if the header of a command has a fault, the status was printed, and nothing drawn; on any other the table decides
abbrev pub PrintsCommand : (port : ℕ) → PolicyValue → CommandValue → Option HeaderFault → (before after : List ℕ)
    → (old new : Option (List ℕ)) → Type 0
PrintsCommand port policy c (Some fault) before after old new =
    (after ≡ before) × PrintsStatus port (header_status fault) old new
PrintsCommand port policy c None before after old new = PrintsDecision port policy c before after old new

-- if a packet is no command, the reason was printed, and nothing drawn
abbrev pub PrintsPacket : WindowsValue → (port : ℕ) → PolicyValue → Cargo → Option Discard → (before after : List ℕ)
    → (old new : Option (List ℕ)) → Type 0
PrintsPacket windows port policy p (Some discard) before after old new =
    (after ≡ before) × Appends old new (discard_line port discard)
PrintsPacket windows port policy p None before after old new =
    PrintsCommand port policy (command_of p) (header_check (command_of p) windows) before after old new

-- memory was refused, and nothing printed
abbrev pub IsMemoryRefused : (old new : Option (List ℕ)) → LineEnd → Type 0
IsMemoryRefused old new end = (end ≡ NoMemory) × (new ≡ old)
