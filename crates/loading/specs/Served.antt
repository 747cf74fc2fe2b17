-- Packets that a node of one thread serves in turn.
use Rattle.std.specs.Prelude.{◌≡◌, ℕ, List, [], ◌∷◌}
use Rattle.spw.specs.Cargo.{Cargo}
use Rattle.single_node.specs.Nodes.{SingleNodeValue}
use Rattle.single_node.specs.Serving.{ServesReported}
use Rattle.single_node.specs.declared.served.ServedDetail.{ServedDetail}

-- The node served the packet that came in at the port, which left it so, with that reply. It let the packet pass: no
-- verdict except 0 was given.
pub record LetsPass (port : ℕ) (packet : Cargo) (before after : SingleNodeValue) (reply : List ℕ) : Type 0 where
  pub reported : ServedDetail
  pub serves : ServesReported reported port packet before after reply
  pub pass : reported.verdict ≡ 0

-- The node served packets that came in at the port, one after the other, and let each pass. These are the replies, one
-- a packet.
abbrev pub LetsPassInTurn : (port : ℕ) → List Cargo → (before after : SingleNodeValue) → List (List ℕ) → Type 0
LetsPassInTurn port [] before after [] = after ≡ before
LetsPassInTurn port [] before after (reply ∷ replies) = ⊥
LetsPassInTurn port (packet ∷ packets) before after [] = ⊥
LetsPassInTurn port (packet ∷ packets) before after (reply ∷ replies) =
    (between : SingleNodeValue) × LetsPass port packet before between reply
    × LetsPassInTurn port packets between after replies
