-- What becomes of a packet in the job `trace`, and what is printed of it.
use Rattle.std.specs.Prelude.{◌≡◌, ◌⊎◌, ℕ, List, [], ◌∷◌, ◌++◌, Option, Some, None}
use Rattle.std.specs.Io.KnownBytes.{Appends}
use Rattle.machine.specs.declared.helpers.Helper.{Helper}
use Rattle.rmap.specs.declared.status.Status.{Status}
use Rattle.spw.specs.Cargo.{Cargo}
use Rattle.sched.specs.Answers.{answering}
use Rattle.sched.specs.History.{History, Then, Open, opened, taken}
use Rattle.sched.specs.Looking.{Node}
use Rattle.sched.specs.Worlds.{IsLawfulWorld, IsWorldOf, WorldValue}
use Rattle.sched.specs.declared.event.Event.{Event}
use Rattle.sched.specs.declared.event.Event.TheVariants.{Take}
use Rattle.sched.specs.declared.event.Outcome.{Outcome}
use Rattle.sched.specs.declared.event.Outcome.TheVariants.{Refused, Discarded, Answered, Taken, Told, Done}
use Rattle.job_nodes.specs.JudgeJob.{discard_line}
use Rattle.job_nodes.specs.Settled.{IsCommandEnd}
use Rattle.job_parts.specs.Replies.{reply_line}
use Rattle.job_trace.specs.TraceJob.{command_lines}

-- ---- packets

-- the line of a packet that no program judges: it is discarded, or answered by its header
abbrev pub IsStopLine : (port : ℕ) → Outcome → (text : List ℕ) → Type 0
IsStopLine port Refused text = ⊥
IsStopLine port (Discarded discard) text = text ≡ discard_line port discard
IsStopLine port (Answered status reply) text = text ≡ reply_line port reply
IsStopLine port (Taken generation) text = ⊥
IsStopLine port (Told reported) text = ⊥
IsStopLine port (Done status reply loaded) text = ⊥

-- after the first history the helpers of the port's program had those answers, in order, and nothing else happened
pub data Helped (port : ℕ) (first : History) : (answers : List ℕ) → History → Type 0 where
  none : Helped port first [] first
  more : {answers : List ℕ} {h : History} (helper : Helper) (reported : ℕ) → Helped port first answers h
      → Helped port first (answers ++ reported ∷ []) (Then h (answering helper port) (Told reported))

-- the command of a packet that was taken after this history, with that generation and those answers
abbrev pub judged_command_with : Cargo → (generation : ℕ) → History → (answers : List ℕ) → Open
judged_command_with packet generation h answers = record (taken packet generation h) { answers = answers }

-- the packet was taken, its program judged it with those answers of its helpers, and it ended with a reply. The text is
-- the lines of that run, and of that reply
pub record IsTraceJudged (n : Node) (h : History) (port : ℕ) (packet : Cargo) (later : History) (text : List ℕ) : Type 0
  where
    pub generation : ℕ
    pub answers : List ℕ
    pub asked : History
    pub helped : Helped port (Then h (Take port packet) (Taken generation)) answers asked
    pub event : Event
    pub ends : IsCommandEnd port event
    pub status : Status
    pub reply : List ℕ
    pub loaded : Option (List ℕ)
    pub later_is : later ≡ Then asked event (Done status reply loaded)
    pub text_is : text ≡ command_lines n port (judged_command_with packet generation h answers) ++ reply_line port reply

-- the packet was stopped by its header; the text is the line of that
pub record IsStoppedPrinted (h : History) (port : ℕ) (packet : Cargo) (later : History) (text : List ℕ) : Type 0 where
  pub outcome : Outcome
  pub later_is : later ≡ Then h (Take port packet) outcome
  pub line : IsStopLine port outcome text

-- what became of a packet after a history is the longer one, and what is printed of it the text
abbrev pub Traces : Node → (before : History) → (port : ℕ) → Cargo → (later : History) → (text : List ℕ) → Type 0
Traces n h port packet later text = IsStoppedPrinted h port packet later text ⊎ IsTraceJudged n h port packet later text

-- if no packet came, nothing was printed, and else what became of it
abbrev pub IsTraced : Node → (before : History) → Option (ℕ × Cargo) → (later : History) → (old new : Option (List ℕ))
    → Type 0
IsTraced n h None later old new = (later ≡ h) × (new ≡ old)
IsTraced n h (Some received) later old new =
    (text : List ℕ) × Traces n h received.0 received.1 later text × Appends old new text

-- ---- from a world on

-- after each history whose world is the old world, the packet was traced
abbrev pub TracesPacket : (port : ℕ) → Cargo → (before after : WorldValue) → (old new : Option (List ℕ)) → Type 0
TracesPacket port packet before after old new =
    (n : Node) (h : History) → IsLawfulWorld n h before
    → (later : History) × IsLawfulWorld n later after × IsTraced n h (Some (port, packet)) later old new

-- take each history whose world is the old world, and in which a command is open at the port whose program has no
-- answer yet. After it the helpers of the program were answered
abbrev pub AnswersHelpers : (port : ℕ) → (answers : List ℕ) → (before after : WorldValue) → Type 0
AnswersHelpers port answers before after =
    (n : Node) (h : History) (packet : Cargo) (generation : ℕ) (first : History) → IsLawfulWorld n h before
    → opened h port ≡ Some (taken packet generation first)
    → (later : History) × Helped port h answers later × IsLawfulWorld n later after
    × (opened later port ≡ Some (judged_command_with packet generation first answers))

-- the lines of the command that is open at the port were printed, for each history of the world in which it has those
-- answers
abbrev pub PrintsRun : (port : ℕ) → (answers : List ℕ) → WorldValue → (old new : Option (List ℕ)) → Type 0
PrintsRun port answers w old new =
    (n : Node) (h : History) (o : Open) → IsWorldOf n h w → opened h port ≡ Some o → o.answers ≡ answers
    → Appends old new (command_lines n port o)

-- the command of the port was ended, and its reply printed
pub record IsEndedPrinted (n : Node) (h : History) (port : ℕ) (after : WorldValue) (old new : Option (List ℕ)) : Type 0 where
  pub event : Event
  pub ends : IsCommandEnd port event
  pub status : Status
  pub reply : List ℕ
  pub loaded : Option (List ℕ)
  pub lawful : IsLawfulWorld n (Then h event (Done status reply loaded)) after
  pub printed : Appends old new (reply_line port reply)

-- the same after each history whose world is the old world
abbrev pub EndsCommand : (port : ℕ) → (before after : WorldValue) → (old new : Option (List ℕ)) → Type 0
EndsCommand port before after old new =
    (n : Node) (h : History) → IsLawfulWorld n h before → IsEndedPrinted n h port after old new

-- take each history whose world is the old world, and in which a command was just taken at the port. After it the
-- command was judged, and the text was printed of it
abbrev pub TracesCommand : (port : ℕ) → (before after : WorldValue) → (old new : Option (List ℕ)) → Type 0
TracesCommand port before after old new =
    (n : Node) (h : History) (packet : Cargo) (generation : ℕ)
    → IsLawfulWorld n (Then h (Take port packet) (Taken generation)) before
    → opened (Then h (Take port packet) (Taken generation)) port ≡ Some (taken packet generation h)
    → (later : History) × (text : List ℕ) × IsLawfulWorld n later after × IsTraceJudged n h port packet later text
    × Appends old new text
