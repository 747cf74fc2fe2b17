-- A packet line that is judged, and what is printed of it.
use Rattle.std.specs.Prelude.{◌≡◌, ℕ, List, Option, Some, None}
use Rattle.std.specs.Io.KnownBytes.{Appends}
use Rattle.node_parts.specs.declared.served.Served.{Served}
use Rattle.node_parts.specs.declared.served.Served.TheVariants.{Stopped, Unread, Done, Window}
use Rattle.node_parts.specs.declared.stop.Stop.TheVariants.{Discarded, Answered}
use Rattle.job_parts.specs.Replies.{reply_line}
use Rattle.job_parts.specs.Turns.{SeesEnd}
use Rattle.job_parts.specs.declared.stops.LineEnd.TheVariants.{Bad, NoMemory}
use Rattle.job_nodes.specs.JobNode.{JobNodeValue, RefusesLine, TakesPacketLine}
use Rattle.job_nodes.specs.JudgeJob.{discard_line}

-- the line that is printed of what became of a packet, with the reply that was due
abbrev pub served_line : (port : ℕ) → Served → (reply : List ℕ) → List ℕ
served_line port (Stopped (Discarded discard)) reply = discard_line port discard
served_line port (Stopped (Answered status)) reply = reply_line port reply
served_line port Unread reply = reply_line port reply
served_line port (Done applied) reply = reply_line port reply
served_line port (Window status) reply = reply_line port reply

-- if no packet came of a line, nothing was printed, and else what became of its packet
abbrev pub IsPrinted : Option (ℕ × Served) → (reply : List ℕ) → (old new : Option (List ℕ)) → Type 0
IsPrinted None reply old new = new ≡ old
IsPrinted (Some received) reply old new = Appends old new (served_line received.0 received.1 reply)

-- the node took the line, and what came of it was printed
pub record Judges (line : List ℕ) (before after : JobNodeValue) (old new : Option (List ℕ)) : Type 0 where
  pub received : Option (ℕ × Served)
  pub taken : TakesPacketLine line received before after
  pub printed : IsPrinted received after.reply old new

-- the node did not take the line, with which this is wrong, and nothing was printed
abbrev pub IsBadLine : List ℕ → SeesEnd JobNodeValue
IsBadLine line before after old new (Bad fault) = RefusesLine line fault before after × (new ≡ old)
IsBadLine line before after old new NoMemory = ⊥
