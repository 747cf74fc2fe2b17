-- The whole way of a packet at a node of one thread.
use Rattle.std.specs.Prelude.{◌≡◌, ◌≢◌, ◌⊎◌, ℕ, List, length, Some, slice_get, slice_set}
use Rattle.spw.specs.Cargo.{Cargo}
use Rattle.spw.specs.Rooms.{put_front}
use Rattle.machine.specs.Sizes.{Maps}
use Rattle.rmap.specs.Command.{command_kind, command_of}
use Rattle.rmap.specs.declared.status.Status.TheVariants.{Success}
use Rattle.bank.specs.Records.{JudgedValue}
use Rattle.bver.specs.Justified.{AcceptedValue}
use Rattle.node_programs.specs.declared.publishes.Publish.{Publish}
use Rattle.node_programs.specs.Histories.{longer_history}
use Rattle.node_programs.specs.Laws.{IsLast}
use Rattle.node_programs.specs.Published.{sizes_of}
use Rattle.node_parts.specs.declared.served.Served.{Served}
use Rattle.node_parts.specs.declared.served.Served.TheVariants.{Stopped, Unread, Done, Window}
use Rattle.node_parts.specs.Passes.{PassValue}
use Rattle.node_parts.specs.Served.{PartsValue, IsAnswered, parts}
use Rattle.node_parts.specs.Slots.{slot_of}
use Rattle.node_parts.specs.Steps.{IsJudgement}
use Rattle.plain_cells.specs.Words.{AreCallsOn}
use Rattle.single_node.specs.Nodes.{SingleNodeValue}
use Rattle.single_node.specs.declared.served.ServedDetail.{ServedDetail}

-- The port saw all that was published. The program that judged is the last of it for the slot of the command, and its
-- place in the list is its generation.
pub record IsJudgedByLast (programs : List Publish) (h after : PassValue) (p : Cargo) (j : JudgedValue)
    (judgement : IsJudgement h after p j) : Type 0 where
  pub saw : judgement.seen ≡ programs
  pub last : IsLast programs (slot_of (command_kind (command_of p)) j.place) judgement.program j.generation

-- The packet was stopped by its header, or judged by the last program that was published for its slot. There always is
-- such a program.
abbrev pub IsByLast : (served : Served) (p : Cargo) (old new : PartsValue) (h after : PassValue) (reply : List ℕ)
    → IsAnswered served p old new h after reply → Type 0
IsByLast (Stopped stop) p old new h after reply answered = Unit {0}
IsByLast Unread p old new h after reply answered = ⊥
IsByLast (Done result) p old new h after reply answered =
    IsJudgedByLast old.programs h answered.between p answered.judged answered.judgement
IsByLast (Window status) p old new h after reply answered =
    IsJudgedByLast old.programs h answered.between p answered.judged answered.judgement

-- The words answered the calls of the run that judged, in order, and are then what those left. If its header stops a
-- packet, no program ran, and they stay.
abbrev pub AsksCells : (sizes : Maps) (served : Served) (p : Cargo) (old new : PartsValue) (h after : PassValue) (reply : List ℕ)
    → IsAnswered served p old new h after reply → (words following : List (List ℕ)) → Type 0
AsksCells sizes (Stopped stop) p old new h after reply answered words following = following ≡ words
AsksCells sizes Unread p old new h after reply answered words following = ⊥
AsksCells sizes (Done result) p old new h after reply answered words following =
    AreCallsOn sizes words answered.judgement.calls following
AsksCells sizes (Window status) p old new h after reply answered words following =
    AreCallsOn sizes words answered.judgement.calls following

-- The list of what was published stays, or has one publish more. Only a command to the boot window that succeeded can
-- add one.
pub record AreKeptOrLonger (served : Served) (old new : List Publish) : Type 0 where
  pub kept : served ≢ Window Success → new ≡ old
  pub longer : (new ≡ old) ⊎ ((slot : ℕ) × (program : AcceptedValue) × (new ≡ longer_history old slot program))

-- This became of the packet that came in at the port. If a program judged it, that is the last one published for its
-- slot, and the cells answered its run. That reply is due, and no other port changed.
pub record ServesPacketAt (served : Served) (port : ℕ) (packet : Cargo) (before after : SingleNodeValue) (reply : List ℕ) : Type
    0 where
  pub holder : PassValue
  pub left : PassValue
  pub own : slice_get before.passes port ≡ Some holder
  pub others : after.passes ≡ slice_set before.passes port left
  pub answered : IsAnswered served packet (parts before.banks before.programs) (parts after.banks after.programs) holder
      left reply
  pub by_last : IsByLast served packet (parts before.banks before.programs) (parts after.banks after.programs) holder
      left reply answered
  pub cells : AsksCells (sizes_of before.programs) served packet (parts before.banks before.programs)
      (parts after.banks after.programs) holder left reply answered before.words after.words
  pub programs : AreKeptOrLonger served before.programs after.programs

-- Generation and verdict are those of the command that was judged. If its header stops a packet, both are 0.
abbrev pub IsServedDetail : (generation verdict : ℕ) (served : Served) (p : Cargo) (old new : PartsValue) (h after : PassValue)
    (reply : List ℕ) → IsAnswered served p old new h after reply → Type 0
IsServedDetail generation verdict (Stopped stop) p old new h after reply answered = (generation ≡ 0) × (verdict ≡ 0)
IsServedDetail generation verdict Unread p old new h after reply answered = ⊥
IsServedDetail generation verdict (Done result) p old new h after reply answered =
    (generation ≡ answered.judged.generation) × (verdict ≡ answered.judged.verdict)
IsServedDetail generation verdict (Window status) p old new h after reply answered =
    (generation ≡ answered.judged.generation) × (verdict ≡ answered.judged.verdict)

-- the same as `ServesPacketAt`, with the generation of the program that judged, and its verdict
pub record ServesReported (reported : ServedDetail) (port : ℕ) (packet : Cargo) (before after : SingleNodeValue) (reply : List ℕ) : Type
    0 where
  pub serves : ServesPacketAt reported.served port packet before after reply
  pub reports : IsServedDetail reported.generation reported.verdict reported.served packet (parts before.banks before.programs)
      (parts after.banks after.programs) serves.holder serves.left reply serves.answered

-- the same as `ServesReported`, with the reply, of that many bytes, at the front of the room, and the rest of it as before
pub record ServesInto (reported : ServedDetail) (size port : ℕ) (packet : Cargo) (before after : SingleNodeValue) (room left : List ℕ)
    : Type 0 where
  pub reply : List ℕ
  pub serves : ServesReported reported port packet before after reply
  pub left_is : left ≡ put_front room reply
  pub size_is : size ≡ length reply
