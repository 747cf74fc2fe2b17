-- The job `live`: the talk that it holds.
use Rattle.std.specs.Prelude.{◌≡◌, ◌⊎◌, ◌||◌, ℕ, suc, Bool, true, false, List, [], ◌∷◌, length, codes, Option, Some, None}
use Rattle.std.specs.Borrow.{Bor}
use Rattle.job_parts.specs.Files.{ReadsFile}
use Rattle.job_parts.specs.Printed.{job_fault_line}
use Rattle.job_parts.specs.declared.faults.Fault.{Fault}
use Rattle.job_parts.specs.declared.faults.Fault.TheVariants.{CannotRead, Damaged, NoMemory}
use Rattle.job_parts.specs.declared.status.ExitStatus.{ExitStatus}
use Rattle.job_parts.specs.declared.status.ExitStatus.TheVariants.{Done, Failed, Misused}
use Rattle.job_parts.specs.declared.stops.JobStop.{JobStop}
use Rattle.job_parts.specs.declared.stops.JobStop.TheVariants.{Ended, Unwritten}
use Rattle.job_parts.specs.declared.stops.WriteFault.{WriteFault}
use Rattle.job_nodes.specs.JobNode.{JobNodeValue, alone}
use Rattle.job_nodes.specs.Sources.{HoldsNoNode, HoldsNode}
use Rattle.scrub.specs.Guarded.{is_damaged}
use Rattle.job_live.specs.Answering.{AnswersTalkLine, PrintsJournal}
use Rattle.job_nodes.specs.LiveNodes.{IsLive, LiveNodeValue}
use Rattle.job_live.specs.Talking.{ComesLine, Misses, Sends}
use Rattle.job_live.specs.declared.words.LiveWords.{LiveWords}

-- how many lines are counted: no talk gets there
abbrev pub most_lines : ℕ
most_lines = 18446744073709551614

module _ {T : Type 0} (received : ComesLine T) (sent : Sends T) (at_once : Bool) where
  -- the line of this number came, its answer was made on the node, and was sent; it may be bad
  pub record AnswersNext (line : List ℕ) (number : ℕ) (before after : LiveNodeValue) (start stop : T) (is_bad : Bool) : Type 0
    where
      pub heard : T
      pub text : List ℕ
      pub line_received : received start (Some line) heard
      pub whole : is_damaged before.guard (alone before.node) ≡ false
      pub answered : AnswersTalkLine at_once line number before after (Some []) (Some text) is_bad
      pub left : sent heard text stop

  -- lines came, after `count` others. Each was taken on the node that those before left, and what is due for it was
  -- sent before the next was asked for. And whether one of them is bad
  abbrev pub Talks : List (List ℕ) → (count : ℕ) (before after : LiveNodeValue) (start stop : T) → (some_bad : Bool) → Type 0
  Talks [] count before after start stop some_bad = (after ≡ before) × (stop ≡ start) × (some_bad ≡ false)
  Talks (line ∷ lines) count before after start stop some_bad =
      (next : LiveNodeValue) × (between : T) × (is_bad : Bool) × (others : Bool)
      × AnswersNext line (suc count) before next start between is_bad
      × Talks lines (suc count) next after between stop others
      × (some_bad ≡ (is_bad || others))

  -- no more lines came; or the line of that number came and was answered
  abbrev pub ExchangesLine : (number : ℕ) → (went : Option Bool) → (before after : LiveNodeValue) (start stop : T) → Type 0
  ExchangesLine number None before after start stop = (after ≡ before) × received start None stop
  ExchangesLine number (Some is_bad) before after start stop =
      (line : List ℕ) × AnswersNext line number before after start stop is_bad

  -- a whole talk: after its lines no more came, or more than are counted
  pub record IsWholeTalk (before after : LiveNodeValue) (start stop : T) (some_bad : Bool) : Type 0 where
    pub lines : List (List ℕ)
    pub last : T
    pub talks : Talks lines 0 before after start last some_bad
    pub ended : received last None stop ⊎ ((stop ≡ last) × (length lines ≡ most_lines))

-- no more lines come: the journals were handed out, and their entries were sent
pub record SendsEnd {T : Type 0} (sent : Sends T) (before after : LiveNodeValue) (start stop : T) : Type 0 where
  pub text : List ℕ
  pub reported : PrintsJournal before after (Some []) (Some text)
  pub left : sent start text stop

-- a whole talk, after which the entries of the journal were sent
pub record EndsTalk {T : Type 0} (received : ComesLine T) (sent : Sends T) (at_once : Bool) (before after : LiveNodeValue) (start stop : T) (some_bad : Bool) : Type 0
  where
    pub following : LiveNodeValue
    pub last : T
    pub talk : IsWholeTalk received sent at_once before following start last some_bad
    pub end : SendsEnd sent following after last stop

-- no more lines came, and the entries of the journal were not sent. Memory was refused to them, and the node is as
-- before. Or they could not be sent
abbrev pub IsEndUnsent : {T : Type 0} (unsent : Sends T) (before after : LiveNodeValue) (start stop : T) → JobStop → Type 0
IsEndUnsent unsent before after start stop (Ended fault) = (fault ≡ NoMemory) × (after ≡ before) × (stop ≡ start)
IsEndUnsent unsent before after start stop (Unwritten refused) = SendsEnd unsent before after start stop

-- the line that is sent last, of the fault that cut a talk off; if memory was refused to it, the line that there is
-- none
abbrev pub IsLastLine : Fault → List ℕ → Type 0
IsLastLine fault text = (text ≡ job_fault_line fault) ⊎ (text ≡ job_fault_line NoMemory)

-- the line of a fault was sent last, or could not be sent
pub record SendsLast {T : Type 0} (sent : Sends T) (fault : Fault) (start stop : T) : Type 0 where
  pub text : List ℕ
  pub is_last : IsLastLine fault text
  pub left : sent start text stop

module _ {T : Type 0} (received : ComesLine T) (sent unsent : Sends T) (missed : Misses T) (at_once : Bool) where
  -- a line came, and an answer was made to it on the node, of which not all could be sent
  pub record LosesAnswer (number : ℕ) (before after : LiveNodeValue) (start stop : T) : Type 0 where
    pub line : List ℕ
    pub heard : T
    pub text : List ℕ
    pub is_bad : Bool
    pub line_received : received start (Some line) heard
    pub whole : is_damaged before.guard (alone before.node) ≡ false
    pub answered : AnswersTalkLine at_once line number before after (Some []) (Some text) is_bad
    pub lost : unsent heard text stop

  -- why no line of this number was answered. It could not be read. It came, but the node is damaged, or memory was
  -- refused to its answer, of which nothing was sent, and the node is as before. Or its answer could not be sent
  abbrev pub IsUnanswered : (number : ℕ) (before after : LiveNodeValue) (start stop : T) → JobStop → Type 0
  IsUnanswered number before after start stop (Ended fault) =
      (after ≡ before)
      × (((file : Bor (List ℕ)) × (fault ≡ CannotRead file) × (file.now ≡ codes "-") × missed start stop)
      ⊎ ((fault ≡ Damaged) × (is_damaged before.guard (alone before.node) ≡ true) × (line : List ℕ) × received start (Some line) stop)
      ⊎ ((fault ≡ NoMemory) × (line : List ℕ) × received start (Some line) stop))
  IsUnanswered number before after start stop (Unwritten refused) = LosesAnswer number before after start stop

  -- some lines came and were answered in turn, and then the next was not
  pub record IsBrokenOff (before after : LiveNodeValue) (start stop : T) (halt : JobStop) : Type 0 where
    pub lines : List (List ℕ)
    pub left : LiveNodeValue
    pub last : T
    pub some_bad : Bool
    pub talks : Talks received sent at_once lines 0 before left start last some_bad
    pub unanswered : IsUnanswered (suc (length lines)) left after last stop halt

  -- a whole talk, after which the entries of the journal were not sent
  pub record StopsAtEnd (before after : LiveNodeValue) (start stop : T) (halt : JobStop) : Type 0 where
    pub some_bad : Bool
    pub following : LiveNodeValue
    pub last : T
    pub talk : IsWholeTalk received sent at_once before following start last some_bad
    pub end_unsent : IsEndUnsent unsent following after last stop halt

  -- a line was not answered, or only the entries of the journal were not sent
  abbrev pub StopsTalk : (before after : LiveNodeValue) (start stop : T) → JobStop → Type 0
  StopsTalk before after start stop halt =
      IsBrokenOff before after start stop halt ⊎ StopsAtEnd before after start stop halt

-- the node of the words before a packet came, with a guard if its programs are scrubbed
pub record HoldsLive {S : Type 0} (reads : ReadsFile S) (words : LiveWords) (before : S) (fresh : LiveNodeValue) (after : S) : Type 0
  where
    pub node : JobNodeValue
    pub holds : HoldsNode reads words.node before node after
    pub live : IsLive words.scrub node fresh

module _ {S T : Type 0} (reads : ReadsFile S) (received : ComesLine T) (sent unsent : Sends T) (missed : Misses T) (words : LiveWords)
  where
    -- a whole talk was held on the node of the words, and the entries of its journal were sent last
    pub record HoldsTalk (before after : S) (start stop : T) (some_bad : Bool) : Type 0 where
      pub fresh : LiveNodeValue
      pub left : LiveNodeValue
      pub node : HoldsLive reads words before fresh after
      pub talk : EndsTalk received sent words.entries fresh left start stop some_bad

    -- a talk on the node of the words was cut off, with the node left so
    pub record BreaksTalk (before after : S) (start stop : T) (halt : JobStop) : Type 0 where
      pub fresh : LiveNodeValue
      pub left : LiveNodeValue
      pub node : HoldsLive reads words before fresh after
      pub broken : StopsTalk received sent unsent missed words.entries fresh left start stop halt

    -- why no whole talk was held: there is no such node, and nothing came or was sent; or a talk was cut off
    abbrev pub IsTalkCutOff : (before after : S) (start stop : T) → JobStop → Type 0
    IsTalkCutOff before after start stop (Ended fault) =
        (HoldsNoNode reads words.node before after fault × (stop ≡ start))
        ⊎ BreaksTalk before after start stop (Ended fault)
    IsTalkCutOff before after start stop (Unwritten refused) = BreaksTalk before after start stop (Unwritten refused)

    -- a fault cut the talk off, and its line was sent last
    pub record SendsFault (before after : S) (start stop : T) : Type 0 where
      pub fault : Fault
      pub broken : T
      pub cut_off : IsTalkCutOff before after start broken (Ended fault)
      pub reported : SendsLast sent fault broken stop

    -- a fault cut the talk off, and its line could not be sent
    pub record LosesFault (before after : S) (start stop : T) : Type 0 where
      pub fault : Fault
      pub broken : T
      pub cut_off : IsTalkCutOff before after start broken (Ended fault)
      pub lost : SendsLast unsent fault broken stop

    -- the exit status is 0 if a whole talk was held and no line was bad, and 1 if one was, or a fault cut it off
    abbrev pub Lives : (before after : S) (start stop : T) → ExitStatus → Type 0
    Lives before after start stop Done = HoldsTalk before after start stop false
    Lives before after start stop Failed =
        HoldsTalk before after start stop true ⊎ SendsFault before after start stop
    Lives before after start stop Misused = ⊥

    -- the last text could not be sent: the answer to a line, the entries of the journal, or the line of a fault
    abbrev pub IsUnsent : (before after : S) (start stop : T) → WriteFault → Type 0
    IsUnsent before after start stop refused =
        IsTalkCutOff before after start stop (Unwritten refused) ⊎ LosesFault before after start stop
