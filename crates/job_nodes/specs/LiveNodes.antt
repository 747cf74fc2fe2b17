-- The node of a talk, whose programs may be scrubbed.
use Rattle.std.specs.Prelude.{◌≡◌, ℕ, List, [], take, Option, None, Some}
use Rattle.spw.specs.Cargo.{Cargo}
use Rattle.scrub.specs.Guarded.{BeginsGuard, GuardedValue, ServesGuarded}
use Rattle.scrub.specs.declared.answer.ServedAnswer.{ServedAnswer}
use Rattle.scrub.specs.declared.guard.Guard.{Guard}
use Rattle.job_nodes.specs.Feeds.{IsFed}
use Rattle.job_nodes.specs.JobNode.{HoldsLine, JobNodeValue, alone, job_node, with_held}
use Rattle.job_nodes.specs.declared.live_node.LineResult.{LineResult}

-- a node as the other jobs have it, and a guard of its programs if they are scrubbed
pub record LiveNodeValue : Type 0 where
  pub node : JobNodeValue
  pub guard : Option Guard

-- the node that is maybe guarded, whose ports hold these bytes, with this reply
abbrev pub live_node : GuardedValue → (held : List (List ℕ)) → (reply : List ℕ) → LiveNodeValue
live_node g held reply = record {
  node = job_node g.node.banks g.node.words g.node.programs g.node.passes held reply;
  guard = g.guard;
}

-- the node of one thread, with its guard: what it holds of packets that have not ended, and the reply, are left out
abbrev pub guarded : LiveNodeValue → GuardedValue
guarded live = record { node = alone live.node; guard = live.guard }

-- another node with the same guard
abbrev pub with_node : LiveNodeValue → JobNodeValue → LiveNodeValue
with_node live node = record live { node = node }

-- the guard stays
abbrev pub KeepsGuard : (before after : LiveNodeValue) → Type 0
KeepsGuard before after = after.guard ≡ before.guard

-- the same node, of which no reply is due
abbrev pub silent : JobNodeValue → JobNodeValue
silent node = job_node node.banks node.words node.programs node.passes node.held []

-- the node before a packet. With a number N it has a guard that scrubs a program before each N-th packet; without one
-- it has none
pub record IsLive (scrub : Option ℕ) (node : JobNodeValue) (live : LiveNodeValue) : Type 0 where
  pub node_is : live.node ≡ silent node
  pub begins : BeginsGuard scrub (alone node) live.guard

-- this became of the packet that came in at the port (`ServesGuarded`). The reply that is due is what was put at the
-- front of a room for it, and no port holds other bytes
pub record ServesLive (answer : ServedAnswer) (port : ℕ) (packet : Cargo) (before after : LiveNodeValue) : Type 0 where
  pub room : List ℕ
  pub left : List ℕ
  pub serves : ServesGuarded answer port packet (guarded before) (guarded after) room left
  pub reply : after.node.reply ≡ take answer.size left
  pub held : after.node.held ≡ before.node.held

-- the line ended a packet, and this came of it
pub record ServesLine (line : List ℕ) (taken : LineResult) (before after : LiveNodeValue) : Type 0 where
  pub packet : Cargo
  pub held : List (List ℕ)
  pub fed : IsFed line before.node.held held (Some (taken.port, packet))
  pub step : ServesLive taken.answer taken.port packet (with_node before (with_held before.node held)) after

-- what came of a line: no packet yet, or what came of a packet
abbrev pub TakesPacketLine : List ℕ → Option LineResult → (before after : LiveNodeValue) → Type 0
TakesPacketLine line None before after = HoldsLine line before.node after.node × KeepsGuard before after
TakesPacketLine line (Some taken) before after = ServesLine line taken before after
