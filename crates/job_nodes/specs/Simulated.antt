-- What the job `sim` reads and does.
use Rattle.std.specs.Prelude.{◌≡◌, ◌⊎◌, ℕ, suc, List, [], ◌∷◌, ◌++◌, length, Option}
use Rattle.std.specs.Io.KnownBytes.{Appends}
use Rattle.spw.specs.Line.{lines_of}
use Rattle.sched.specs.History.{History, Start, history_from}
use Rattle.sched.specs.Looking.{Node}
use Rattle.sched.specs.Worlds.{GoesOnLawfully, IsLawfulWorld, WorldValue}
use Rattle.sched.specs.declared.event.Event.{Event}
use Rattle.sched.specs.declared.event.Outcome.{Outcome}
use Rattle.job_config.specs.declared.node_lines.NodeLines.{NodeLines}
use Rattle.job_parts.specs.Files.{ReadsFile}
use Rattle.job_parts.specs.Stops.{fault_at}
use Rattle.job_parts.specs.Turns.{SeesEnd}
use Rattle.job_parts.specs.declared.faults.Fault.{Fault}
use Rattle.job_parts.specs.declared.status.ExitStatus.{ExitStatus}
use Rattle.job_parts.specs.declared.status.ExitStatus.TheVariants.{Done, Failed, Misused}
use Rattle.job_parts.specs.declared.stops.LineEnd.{LineEnd}
use Rattle.job_parts.specs.declared.stops.LineEnd.TheVariants.{Bad, NoMemory}
use Rattle.job_nodes.specs.Beginning.{IsScheduled, IsUnscheduled, RefusesContents}
use Rattle.job_nodes.specs.EventLines.{IsBadEvent, IsEventOf}
use Rattle.job_nodes.specs.SimJob.{outcome_line, outcome_lines}

-- ---- lines and events

-- each line writes the event of its place, at one of this many ports, and there are no more events
abbrev pub WriteEvents : (ports : ℕ) → List (List ℕ) → List Event → Type 0
WriteEvents ports [] [] = Unit {0}
WriteEvents ports [] (event ∷ events) = ⊥
WriteEvents ports (line ∷ lines) [] = ⊥
WriteEvents ports (line ∷ lines) (event ∷ events) = IsEventOf ports line event × WriteEvents ports lines events

-- the lines write events of the node, which has that history. These outcomes, one for each, are lawful after it, and
-- lead to the world that is left; and the lines of the outcomes were printed
pub record SimulatesFrom (n : Node) (h : History) (lines : List (List ℕ)) (left : WorldValue) (old new : Option (List ℕ)) :
    Type 0 where
  pub events : List Event
  pub outcomes : List Outcome
  pub written : WriteEvents n.ports lines events
  pub count : length outcomes ≡ length events
  pub lawful : IsLawfulWorld n (history_from h events outcomes) left
  pub printed : Appends old new (outcome_lines outcomes)

-- why a line is not simulated: it writes no event at one of this many ports, and this is what is wrong with it. Or
-- memory was refused to its event
abbrev pub IsNotStepped : (ports : ℕ) → List ℕ → LineEnd → Type 0
IsNotStepped ports line (Bad fault) = IsBadEvent ports line fault
IsNotStepped ports line NoMemory = Unit {0}

-- the lines before one were simulated after a history. That one, which is counted from 1, ends the job with this fault:
-- nothing was printed of it
pub record IsCutShort (n : Node) (h : History) (lines : List (List ℕ)) (old new : Option (List ℕ)) (fault : Fault) :
    Type 0 where
  pub front : List (List ℕ)
  pub line : List ℕ
  pub rest : List (List ℕ)
  pub left : WorldValue
  pub end : LineEnd
  pub lines_are : lines ≡ front ++ line ∷ rest
  pub all : SimulatesFrom n h front left old new
  pub is_fault : fault ≡ fault_at (suc (length front)) end
  pub bad : IsNotStepped n.ports line end

-- ---- a line

-- the line writes an event at a port of the world, which goes on by it, and the line of its outcome was printed
pub record StepsEventLine (line : List ℕ) (before after : WorldValue) (old new : Option (List ℕ)) : Type 0 where
  pub event : Event
  pub outcome : Outcome
  pub written : IsEventOf (length before.ports) line event
  pub goes_on : GoesOnLawfully event outcome before after
  pub printed : Appends old new (outcome_line outcome)

-- the line is not simulated, and nothing was printed
abbrev pub IsStuck : List ℕ → SeesEnd WorldValue
IsStuck line before after old new end = IsNotStepped (length before.ports) line end × (new ≡ old)

-- ---- the whole job

module _ {S : Type 0} (reads : ReadsFile S) (args : NodeLines) where
  -- each line of the file was simulated on that node, from its beginning on
  pub record SimulatesFile (before after : S) (old new : Option (List ℕ)) : Type 0 where
    pub text : List ℕ
    pub node : Node
    pub left : WorldValue
    pub scheduled : IsScheduled reads args before text node after
    pub all : SimulatesFrom node Start (lines_of text) left old new

  -- what `sim` reads and prints if no fault ends it, with its exit status: 2 if a bank begins with bytes
  abbrev pub DoesSim : (before after : S) → (old new : Option (List ℕ)) → ExitStatus → Type 0
  DoesSim before after old new Done = SimulatesFile before after old new
  DoesSim before after old new Failed = ⊥
  DoesSim before after old new Misused = RefusesContents reads args before after old new

  -- the lines of the file before one were simulated on that node, and that one was not
  pub record StopsShort (before after : S) (old new : Option (List ℕ)) (fault : Fault) : Type 0 where
    pub text : List ℕ
    pub node : Node
    pub scheduled : IsScheduled reads args before text node after
    pub cut_short : IsCutShort node Start (lines_of text) old new fault

  -- why not all lines were simulated: nothing was printed if lines or node cannot be read
  abbrev pub IsNotSimulated : (before after : S) → (old new : Option (List ℕ)) → Fault → Type 0
  IsNotSimulated before after old new fault =
      ((new ≡ old) × IsUnscheduled reads args before after fault) ⊎ StopsShort before after old new fault
