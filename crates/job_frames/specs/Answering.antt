-- A node at the end of a link: what it makes of what comes with a frame.
use Rattle.std.specs.Prelude.{◌≡◌, ℕ, ◌+◌, ◌-◌, ◌^◌, min, Bool, true, false, List, [], ◌∷◌, ◌++◌, length, Option, Some}
use Rattle.spw.specs.Cargo.{Cargo}
use Rattle.scrub.specs.Guarded.{is_damaged}
use Rattle.scrub.specs.declared.answer.ServedAnswer.{ServedAnswer}
use Rattle.frames.specs.Streams.{reply_frame_of}
use Rattle.frames.specs.declared.received.Received.{Received}
use Rattle.frames.specs.declared.received.Received.TheVariants.{Whole, Piece, Time, Other}
use Rattle.job_nodes.specs.JobNode.{alone}
use Rattle.job_nodes.specs.LiveNodes.{LiveNodeValue, ServesLive}
use Rattle.job_live.specs.Answering.{MakesRoom}
use Rattle.job_live.specs.Journals.{TurnsJournals, journals_text}
use Rattle.job_live.specs.Entries.{HandsOutLeft, entries_text}
use Rattle.job_live.specs.ScrubLines.{found_text}
use Rattle.job_frames.specs.Reported.{frame_fault_line, served_text}
use Rattle.frames.specs.declared.faults.FrameFault.TheVariants.{ForBridge, CutOff}

-- a node, whether its entries are handed out at once, how many frames came, and whether a packet goes on with the next
pub record AnsweringValue : Type 0 where
  pub node : LiveNodeValue
  pub at_once : Bool
  pub count : ℕ
  pub is_open : Bool

-- a node before a frame came
abbrev pub first_answering : LiveNodeValue → (at_once : Bool) → AnsweringValue
first_answering node at_once = record { node = node; at_once = at_once; count = 0; is_open = false }

-- the number of the next frame; they are counted up to 2⁶⁴ - 1
abbrev pub next_number : AnsweringValue → ℕ
next_number following = min (following.count + 1) (2 ^ 64 - 1)

-- the same node after a frame more, and whether a packet goes on then
abbrev pub one_more : AnsweringValue → (is_open : Bool) → AnsweringValue
one_more following is_open = record following { count = next_number following; is_open = is_open }

-- the bytes that are sent of a reply: a frame of its own, or none if no reply is due
abbrev pub due_bytes_of : List ℕ → List ℕ
due_bytes_of [] = []
due_bytes_of (byte ∷ reply) = reply_frame_of (byte ∷ reply)

-- a packet, which ended with the frame of that number, met a journal with room for its command, and was served. Its
-- reply is due. Then are reported the journals that were full, what a scrub found, the entries that are handed out at
-- once, and the packet's discard, if there was one. Journals of those entries begin anew
pub record AnswersPacket (at_once : Bool) (packet : Cargo) (frame : ℕ) (before after : LiveNodeValue) (reply text : List ℕ) : Type 0 where
  pub ready : LiveNodeValue
  pub journal : List ℕ
  pub answer : ServedAnswer
  pub room : MakesRoom before ready (Some []) (Some journal)
  pub following : LiveNodeValue
  pub serves : ServesLive answer 0 packet ready following
  pub replied : reply ≡ due_bytes_of following.node.reply
  pub reported : text
      ≡ journal ++ found_text answer.found ++ entries_text at_once following.node.banks
      ++ served_text frame answer.reported.served
  pub turned : HandsOutLeft at_once following after

-- nothing is due
abbrev pub AreNone : (reply text : List ℕ) → Type 0
AreNone reply text = (reply ≡ []) × (text ≡ [])

-- what is due for the frame of that number, which is for a bridge: that this is its fault
abbrev pub IsFaultDue : (frame : ℕ) → (reply text : List ℕ) → Type 0
IsFaultDue frame reply text = (reply ≡ []) × (text ≡ frame_fault_line frame ForBridge)

-- what is due for what came with a frame. For a packet, if the node is not damaged, it is what the packet comes to. For
-- a frame that is for a bridge it is its fault. For a time code or bytes of a packet that goes on it is nothing
abbrev pub AnswersLinkFrame : AnsweringValue → Received → (reply text : List ℕ) → AnsweringValue → Type 0
AnswersLinkFrame before (Whole packet) reply text after =
    AnswersPacket before.at_once packet (next_number before) before.node after.node reply text
    × (after.at_once ≡ before.at_once) × (after.count ≡ next_number before) × (after.is_open ≡ false)
    × (is_damaged before.node.guard (alone before.node.node) ≡ false)
AnswersLinkFrame before Piece reply text after = AreNone reply text × (after ≡ one_more before true)
AnswersLinkFrame before Time reply text after = AreNone reply text × (after ≡ one_more before before.is_open)
AnswersLinkFrame before (Other code) reply text after =
    IsFaultDue (next_number before) reply text × (after ≡ one_more before before.is_open)

-- memory was refused, or a packet came to a node that is damaged: all is as before the frame. Only a packet and a frame
-- for a bridge ask for memory
abbrev pub RefusesFrame : AnsweringValue → Received → AnsweringValue → Type 0
RefusesFrame before (Whole packet) after = after ≡ before
RefusesFrame before Piece after = ⊥
RefusesFrame before Time after = ⊥
RefusesFrame before (Other code) after = after ≡ before

-- what is reported first when no more bytes come: that the input ended within the next frame, if it did. If a packet
-- goes on, that it ended before that frame
abbrev pub cut_text : (is_whole : Bool) → (frame : ℕ) → List ℕ
cut_text true frame = []
cut_text false frame = frame_fault_line frame CutOff

-- the text that is due when no more bytes come: after that the entries of the journals, which were handed out
pub record EndsText (is_whole : Bool) (following : AnsweringValue) (after : LiveNodeValue) (text : List ℕ) : Type 0 where
  pub turned : TurnsJournals true (length following.node.node.banks) following.node after
  pub reported : text ≡ cut_text is_whole (next_number following) ++ journals_text true following.node.node.banks
