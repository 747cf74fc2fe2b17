-- What the job `trace` reads and does, and what it prints.
use Rattle.std.specs.Prelude.{◌≡◌, ◌⊎◌, ℕ, suc, List, [], ◌∷◌, ◌++◌, length, replicate, Option, Some}
use Rattle.spw.specs.Cargo.{Cargo}
use Rattle.spw.specs.Line.{lines_of}
use Rattle.sched.specs.History.{History, Start}
use Rattle.sched.specs.Looking.{Node}
use Rattle.sched.specs.Worlds.{IsLawfulWorld, WorldValue}
use Rattle.job_config.specs.declared.node_lines.NodeLines.{NodeLines}
use Rattle.job_nodes.specs.Beginning.{IsScheduled, IsUnscheduled, RefusesContents}
use Rattle.job_nodes.specs.Feeds.{IsFed, IsNotFed}
use Rattle.job_parts.specs.Files.{ReadsFile}
use Rattle.job_parts.specs.Stops.{fault_at}
use Rattle.job_parts.specs.Turns.{SeesPrinted, SeesEnd}
use Rattle.job_parts.specs.declared.faults.Fault.{Fault}
use Rattle.job_parts.specs.declared.faults.Fault.TheVariants.{NoMemory as OutOfMemory}
use Rattle.job_parts.specs.declared.status.ExitStatus.{ExitStatus}
use Rattle.job_parts.specs.declared.status.ExitStatus.TheVariants.{Done, Failed, Misused}
use Rattle.job_parts.specs.declared.stops.LineEnd.{LineEnd}
use Rattle.job_parts.specs.declared.stops.LineEnd.TheVariants.{Bad, NoMemory}
use Rattle.job_trace.specs.Judged.{IsTraced}
use Rattle.job_trace.specs.declared.trace.Tracing.{Tracing}

-- ---- lines

-- a port took the line's piece, and the packet that it ended, if it ended one, was traced
abbrev pub TracesLine : Node → (line : List ℕ) → (before : History) → (held : List (List ℕ)) → (later : History)
    → (left : List (List ℕ)) → (old new : Option (List ℕ)) → Type 0
TracesLine n line h held later left old new =
    (received : Option (ℕ × Cargo)) × IsFed line held left received × IsTraced n h received later old new

-- the lines were traced in turn
abbrev pub TracesLines : Node → List (List ℕ) → (before : History) → (held : List (List ℕ)) → (later : History)
    → (left : List (List ℕ)) → (old new : Option (List ℕ)) → Type 0
TracesLines n [] h held later left old new = (later ≡ h) × (left ≡ held) × (new ≡ old)
TracesLines n (line ∷ lines) h held later left old new =
    (next : History) × (kept : List (List ℕ)) × (between : Option (List ℕ))
    × TracesLine n line h held next kept old between × TracesLines n lines next kept later left between new

-- why a line was not traced: this is wrong with it; or it ended a packet, and memory was refused to what becomes of
-- that. The ports hold those bytes then
abbrev pub IsUntraced : List ℕ → (held left : List (List ℕ)) → LineEnd → Type 0
IsUntraced line held left (Bad fault) = IsNotFed line held left fault
IsUntraced line held left NoMemory = (received : ℕ × Cargo) × IsFed line held left (Some received)

-- the lines before one were traced. That one, which is counted from 1, ends the job with this fault: nothing was
-- printed of it
pub record IsTraceCutShort (n : Node) (lines : List (List ℕ)) (h : History) (held : List (List ℕ)) (old new : Option (List ℕ))
    (fault : Fault) : Type 0 where
  pub front : List (List ℕ)
  pub line : List ℕ
  pub rest : List (List ℕ)
  pub later : History
  pub kept : List (List ℕ)
  pub left : List (List ℕ)
  pub end : LineEnd
  pub lines_are : lines ≡ front ++ line ∷ rest
  pub all : TracesLines n front h held later kept old new
  pub is_fault : fault ≡ fault_at (suc (length front)) end
  pub bad : IsUntraced line kept left end

-- ---- a line

-- after each history whose world is the old world, the line was traced
abbrev pub TracesLineFrom : List ℕ → SeesPrinted Tracing
TracesLineFrom line before after old new =
    (n : Node) (h : History) → IsLawfulWorld n h before.world
    → (later : History) × IsLawfulWorld n later after.world × TracesLine n line h before.feeds later after.feeds old new

-- the line was not traced, and nothing was printed
abbrev pub IsTraceStuck : List ℕ → SeesEnd Tracing
IsTraceStuck line before after old new end = IsUntraced line before.feeds after.feeds end × (new ≡ old)

-- ---- the whole job

module _ {S : Type 0} (reads : ReadsFile S) (args : NodeLines) where
  -- each line of the file was traced on that node, from its beginning on, and what became of its
  -- packets is lawful
  pub record TracesFile (before after : S) (old new : Option (List ℕ)) : Type 0 where
    pub text : List ℕ
    pub node : Node
    pub later : History
    pub world : WorldValue
    pub left : List (List ℕ)
    pub scheduled : IsScheduled reads args before text node after
    pub lawful : IsLawfulWorld node later world
    pub all : TracesLines node (lines_of text) Start (replicate node.ports []) later left old new

  -- what `trace` reads and prints if no fault ends it, with its exit status: 2 if a bank begins with bytes
  abbrev pub DoesTrace : (before after : S) → (old new : Option (List ℕ)) → ExitStatus → Type 0
  DoesTrace before after old new Done = TracesFile before after old new
  DoesTrace before after old new Failed = ⊥
  DoesTrace before after old new Misused = RefusesContents reads args before after old new

  -- the lines of the file before one were traced on that node, and that one was not
  pub record StopsTraceShort (before after : S) (old new : Option (List ℕ)) (fault : Fault) : Type 0 where
    pub text : List ℕ
    pub node : Node
    pub scheduled : IsScheduled reads args before text node after
    pub cut_short : IsTraceCutShort node (lines_of text) Start (replicate node.ports []) old new fault

  -- lines and node were read, and memory was refused to what takes the lines
  pub record LacksTraceRoom (before after : S) (fault : Fault) : Type 0 where
    pub text : List ℕ
    pub node : Node
    pub scheduled : IsScheduled reads args before text node after
    pub no_memory : fault ≡ OutOfMemory

  -- why not all lines were traced: nothing was printed if lines or node cannot be read
  abbrev pub IsNotTraced : (before after : S) → (old new : Option (List ℕ)) → Fault → Type 0
  IsNotTraced before after old new fault =
      ((new ≡ old) × (IsUnscheduled reads args before after fault ⊎ LacksTraceRoom before after fault))
      ⊎ StopsTraceShort before after old new fault
