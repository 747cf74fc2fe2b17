-- The job that answers frames: what it reads, sends and reports.
use Rattle.std.specs.Prelude.{◌≡◌, ◌⊎◌, ◌&&◌, ℕ, Bool, true, false, not, List, codes}
use Rattle.std.specs.Borrow.{Bor}
use Rattle.job_parts.specs.Files.{ReadsFile}
use Rattle.job_parts.specs.declared.faults.Fault.{Fault}
use Rattle.job_parts.specs.declared.faults.Fault.TheVariants.{CannotRead, Damaged, NoMemory}
use Rattle.job_parts.specs.declared.status.ExitStatus.{ExitStatus}
use Rattle.job_parts.specs.declared.status.ExitStatus.TheVariants.{Done, Failed, Misused}
use Rattle.job_parts.specs.declared.stops.JobStop.{JobStop}
use Rattle.job_parts.specs.declared.stops.JobStop.TheVariants.{Ended, Unwritten}
use Rattle.job_parts.specs.declared.stops.WriteFault.{WriteFault}
use Rattle.scrub.specs.Guarded.{is_damaged}
use Rattle.job_nodes.specs.JobNode.{JobNodeValue, alone}
use Rattle.job_nodes.specs.Sources.{HoldsNoNode, HoldsNode}
use Rattle.job_live.specs.LiveJob.{HoldsLive, SendsLast}
use Rattle.job_nodes.specs.LiveNodes.{LiveNodeValue}
use Rattle.job_live.specs.declared.words.LiveWords.{LiveWords}
use Rattle.frames.specs.Reading.{Reading, first_reading, is_between}
use Rattle.linking.specs.Linking.{Fails, IsCutOff, IsWholeLink, Moves}
use Rattle.linking.specs.declared.link.LinkEnd.{LinkEnd}
use Rattle.linking.specs.declared.link.LinkEnd.TheVariants.{Unread, Unsent, Unreported, NoMemory as NoRoom}
use Rattle.job_frames.specs.Answering.{AnswersLinkFrame, AnsweringValue, EndsText, RefusesFrame, first_answering}

-- the exit status of a link that was held to its end: between two packets, and without a text that was lost, or not
abbrev pub link_status_of : (is_whole has_lost : Bool) → ExitStatus
link_status_of true true = Failed
link_status_of true false = Done
link_status_of false has_lost = Failed

-- whether bytes ended between two frames, and no packet goes on
abbrev pub ends_whole : Reading → AnsweringValue → Bool
ends_whole read following = is_between read && not following.is_open

-- why a packet was not served, by whether the node is damaged
abbrev pub frame_refusal_of : (damaged : Bool) → Fault
frame_refusal_of true = Damaged
frame_refusal_of false = NoMemory

-- why the job stops if a link was cut off so, by whether the node is damaged
abbrev pub IsFramesHalt : (damaged : Bool) → LinkEnd → JobStop → Type 0
IsFramesHalt damaged Unread halt = (file : Bor (List ℕ)) × (halt ≡ Ended (CannotRead file)) × (file.now ≡ codes "-")
IsFramesHalt damaged NoRoom halt = halt ≡ Ended (frame_refusal_of damaged)
IsFramesHalt damaged Unsent halt = halt ≡ Unwritten (record {})
IsFramesHalt damaged Unreported halt = halt ≡ Unwritten (record {})

-- what is due when no more bytes come was reported, or could not be reported, and the node is then this
pub record PrintsEnd {L : Type 0} (reported : Moves L) (is_whole : Bool) (following : AnsweringValue) (after : LiveNodeValue) (last to : L) : Type 0
  where
    pub text : List ℕ
    pub ends : EndsText is_whole following after text
    pub said : reported last text to

-- what is due when no more bytes come was not reported. Memory was refused to it, and the node is as before. Or the
-- text could not be reported
abbrev pub IsEndUnreported : {L : Type 0} (unreported : Moves L) (is_whole : Bool) (following : AnsweringValue) (after : LiveNodeValue) (last to : L) → JobStop → Type 0
IsEndUnreported unreported is_whole following after last to (Ended fault) = (fault ≡ NoMemory) × (after ≡ following.node) × (to ≡ last)
IsEndUnreported unreported is_whole following after last to (Unwritten refused) = PrintsEnd unreported is_whole following after last to

-- a link was held to its end. What is due for its frames was sent and reported, frame for frame, and then what is due
-- there. And whether it ended between two packets
pub record HoldsLink {L : Type 0} (received sent reported : Moves L) (start read : Reading) (before : AnsweringValue) (after : LiveNodeValue)
    (from to : L) (is_whole : Bool) : Type 0 where
  pub following : AnsweringValue
  pub last : L
  pub link : IsWholeLink AnswersLinkFrame received sent reported start read before following from last
  pub whole : is_whole ≡ ends_whole read following
  pub end : PrintsEnd reported is_whole following after last to

module _ {L : Type 0} (received sent reported : Moves L) (unread : Fails L) (unsent unreported : Moves L) where
  -- bytes came to their end, and what is due there was not reported
  pub record StopsAtLinkEnd (start read : Reading) (before : AnsweringValue) (after : LiveNodeValue) (from to : L) (halt : JobStop) :
      Type 0 where
    pub following : AnsweringValue
    pub last : L
    pub link : IsWholeLink AnswersLinkFrame received sent reported start read before following from last
    pub end_unreported : IsEndUnreported unreported (ends_whole read following) following after last to halt

  -- a link was cut off before its end
  pub record StopsBefore (start read : Reading) (before : AnsweringValue) (after : LiveNodeValue) (from to : L) (halt : JobStop) :
      Type 0 where
    pub why : LinkEnd
    pub following : AnsweringValue
    pub cut : IsCutOff AnswersLinkFrame RefusesFrame received sent reported unread unsent unreported why start read before following from to
    pub left : after ≡ following.node
    pub is_halt : IsFramesHalt (is_damaged after.guard (alone after.node)) why halt

  -- a link was cut off, or only what is due at its end was not reported
  abbrev pub StopsLink : (start read : Reading) (before : AnsweringValue) (after : LiveNodeValue) (from to : L) → JobStop → Type 0
  StopsLink start read before after from to halt =
      StopsBefore start read before after from to halt ⊎ StopsAtLinkEnd start read before after from to halt

-- nothing was read, and no frame came to the node, which is that of the words
pub record AreReady {S : Type 0} (reads : ReadsFile S) (words : LiveWords) (before : S) (read : Reading) (following : AnsweringValue) (after : S) :
    Type 0 where
  pub fresh : LiveNodeValue
  pub node : HoldsLive reads words before fresh after
  pub untouched : following ≡ first_answering fresh words.entries
  pub unread : read ≡ first_reading

-- the node of the words was made, but memory was refused to the reader of frames
pub record IsReaderUnmade {S : Type 0} (reads : ReadsFile S) (words : LiveWords) (before after : S) (fault : Fault) : Type 0 where
  pub fresh : JobNodeValue
  pub node : HoldsNode reads words.node before fresh after
  pub is_fault : fault ≡ NoMemory

-- there is no node of the words, or no reader of frames
abbrev pub IsNoLink : {S : Type 0} (reads : ReadsFile S) (words : LiveWords) (before after : S) → Fault → Type 0
IsNoLink reads words before after fault =
    HoldsNoNode reads words.node before after fault ⊎ IsReaderUnmade reads words before after fault

module _ {S L : Type 0} (reads : ReadsFile S) (received sent reported : Moves L) (unread : Fails L) (unsent unreported : Moves L) (words : LiveWords) where
  -- a link was held to its end on the node of the words
  pub record HoldsFrames (before after : S) (start stop : L) (is_whole : Bool) : Type 0 where
    pub fresh : LiveNodeValue
    pub left : LiveNodeValue
    pub read : Reading
    pub node : HoldsLive reads words before fresh after
    pub link : HoldsLink received sent reported first_reading read (first_answering fresh words.entries) left start stop is_whole

  -- a link on the node of the words was cut off
  pub record BreaksFrames (before after : S) (start stop : L) (halt : JobStop) : Type 0 where
    pub fresh : LiveNodeValue
    pub left : LiveNodeValue
    pub read : Reading
    pub node : HoldsLive reads words before fresh after
    pub broken : StopsLink received sent reported unread unsent unreported first_reading read (first_answering fresh words.entries) left start stop halt

  -- why no link was held to its end: there is no such node, and nothing came, was sent or was reported. Or a link was
  -- cut off
  abbrev pub IsUnheld : (before after : S) (start stop : L) → JobStop → Type 0
  IsUnheld before after start stop (Ended fault) =
      (IsNoLink reads words before after fault × (stop ≡ start))
      ⊎ BreaksFrames before after start stop (Ended fault)
  IsUnheld before after start stop (Unwritten refused) = BreaksFrames before after start stop (Unwritten refused)

  -- a fault cut the link off, and its line was reported last
  pub record ReportsLinkFault (before after : S) (start stop : L) : Type 0 where
    pub fault : Fault
    pub broken : L
    pub unheld : IsUnheld before after start broken (Ended fault)
    pub said : SendsLast reported fault broken stop

  -- a fault cut the link off, and its line could not be reported
  pub record LosesLinkFault (before after : S) (start stop : L) : Type 0 where
    pub fault : Fault
    pub broken : L
    pub unheld : IsUnheld before after start broken (Ended fault)
    pub lost : SendsLast unreported fault broken stop

  -- a link was held to its end, but it ended within a frame or a packet, or a text was lost
  abbrev pub HoldsBadly : (lost : L → Bool) (before after : S) (start stop : L) → Type 0
  HoldsBadly lost before after start stop =
      HoldsFrames before after start stop false ⊎ (HoldsFrames before after start stop true × (lost stop ≡ true))

  -- the exit status is 0 if a link was held to its end between two packets and no text was lost. It is 1 if it ended
  -- within a frame or a packet, a text was lost, or a fault cut it off
  abbrev pub LivesFrames : (lost : L → Bool) (before after : S) (start stop : L) → ExitStatus → Type 0
  LivesFrames lost before after start stop Done = HoldsFrames before after start stop true × (lost stop ≡ false)
  LivesFrames lost before after start stop Failed =
      HoldsBadly lost before after start stop ⊎ ReportsLinkFault before after start stop
  LivesFrames lost before after start stop Misused = ⊥

  -- the last bytes could not be sent, or the last text could not be reported: of a frame, of the end, or of a fault
  abbrev pub IsFramesUnsent : (before after : S) (start stop : L) → WriteFault → Type 0
  IsFramesUnsent before after start stop refused =
      IsUnheld before after start stop (Unwritten refused) ⊎ LosesLinkFault before after start stop
