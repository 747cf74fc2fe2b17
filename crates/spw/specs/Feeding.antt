-- Packets that arrive in pieces.
use Rattle.std.specs.Prelude.{◌≡◌, ℕ, ◌+◌, ◌<◌, ◌≤◌, ◌↔◌, List, [], ◌∷◌, ◌++◌, length}
use Rattle.std.specs.List.{concat}
use Rattle.spw.specs.declared.packets.TheConstants.{MAX_PACKET}

-- From what is held the pieces were taken in turn, and then this is held. Each piece and what was held before had
-- together at most 4,200 bytes.
abbrev pub FedFrom : (held : List ℕ) → List (List ℕ) → List ℕ → Type 0
FedFrom held [] after = after ≡ held
FedFrom held (piece ∷ pieces) after = (length held + length piece ≤ MAX_PACKET) × FedFrom (held ++ piece) pieces after

-- the pieces were taken in turn from none, and then this is held
abbrev pub Fed : List (List ℕ) → List ℕ → Type 0
Fed pieces held = FedFrom [] pieces held

-- a packet is the join of its pieces, however it was cut (ECSS-E-ST-50-52C, packets as they arrive from a link)
pub record PacketIsJoin : Type 0 where
  -- what is held is the join of the pieces that were taken
  pub join : (pieces : List (List ℕ)) (held : List ℕ) → Fed pieces held → held ≡ concat pieces
  -- the pieces are all taken exactly if their join is at most 4,200 bytes
  pub taken : (pieces : List (List ℕ)) → Fed pieces (concat pieces) ↔ (length (concat pieces) ≤ MAX_PACKET)
  -- other pieces with the same join are taken too, and give the same
  pub same : (pieces others : List (List ℕ)) (held : List ℕ) → concat pieces ≡ concat others → Fed pieces held
      → Fed others held
  -- a piece is refused exactly if the join of the pieces up to it is over 4,200 bytes
  pub refused : (pieces : List (List ℕ)) (held piece : List ℕ) → Fed pieces held → (MAX_PACKET < length held + length piece)
      ↔ (MAX_PACKET < length (concat (pieces ++ piece ∷ [])))
