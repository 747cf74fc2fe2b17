-- What the ports of a node hold of packets that have not ended, and what a line does to it.
use Rattle.std.specs.Prelude.{◌≡◌, ◌<◌, ◌≤◌, ◌+◌, ◌⊎◌, ℕ, List, [], ◌++◌, length, slice_get, slice_set, Option, Some, None}
use Rattle.spw.specs.Cargo.{Cargo}
use Rattle.spw.specs.Line.{HasFault, IsPieceLine, mark_word}
use Rattle.spw.specs.declared.faults.LineFault.{LineFault}
use Rattle.spw.specs.declared.faults.LineFault.TheVariants.{NoPort, BadHex, BadMarker, TooLong, Memory}
use Rattle.spw.specs.declared.packets.End.{End}
use Rattle.spw.specs.declared.packets.TheConstants.{MAX_PACKET}
use Rattle.job_parts.specs.declared.bad_lines.BadLine.{BadLine}
use Rattle.job_parts.specs.declared.bad_lines.BadLine.TheVariants.{Line, NoPort as NoSuchPort, NoEvent, NoRoom}

-- the line writes a piece for a port, which with what it holds makes these bytes of a packet, and ends it so, if
-- it does
pub record Continues (line : List ℕ) (held : List (List ℕ)) (port : ℕ) (bytes : List ℕ) (mark : Option End) : Type 0
  where
    pub own : List ℕ
    pub piece : List ℕ
    pub written : IsPieceLine line port piece mark
    pub holder : slice_get held port ≡ Some own
    pub joined : bytes ≡ own ++ piece

-- a port holds one piece more, and no packet came; or the packet of a port came, which holds nothing then. A
-- packet has at most 4,200 bytes
abbrev pub IsFed : List ℕ → (before after : List (List ℕ)) → Option (ℕ × Cargo) → Type 0
IsFed line before after None =
    (port : ℕ) × (bytes : List ℕ) × Continues line before port bytes None × (length bytes ≤ MAX_PACKET)
    × (after ≡ slice_set before port bytes)
IsFed line before after (Some received) =
    Continues line before received.0 received.1.bytes (Some received.1.end) × (length received.1.bytes ≤ MAX_PACKET)
    × (after ≡ slice_set before received.0 [])

-- the line writes a piece for a port, which with what the port holds is too long for a packet
abbrev pub Overfills : List ℕ → List (List ℕ) → Type 0
Overfills line held =
    (port : ℕ) × (bytes : List ℕ) × (mark : Option End) × Continues line held port bytes mark
    × (MAX_PACKET < length bytes)

-- why a piece ends no packet, by what its port held before, the piece, and what it holds after. They are too long for a
-- packet, and what was held stays. Or memory was refused, and all of the bytes are held
abbrev pub IsUnended : (before piece after : List ℕ) → LineFault → Type 0
IsUnended before piece after NoPort = ⊥
IsUnended before piece after BadMarker = ⊥
IsUnended before piece after BadHex = ⊥
IsUnended before piece after TooLong = (MAX_PACKET < length before + length piece) × (after ≡ before)
IsUnended before piece after Memory = (length before + length piece ≤ MAX_PACKET) × (after ≡ before ++ piece)

-- the line ends a packet, but memory was refused to it: its port holds all of its bytes
abbrev pub IsUnclosed : List ℕ → (before after : List (List ℕ)) → Type 0
IsUnclosed line before after =
    (port : ℕ) × (bytes : List ℕ) × (end : End) × Continues line before port bytes (Some end)
    × (length bytes ≤ MAX_PACKET)
    × (after ≡ slice_set before port bytes)

-- the line writes a piece for a port that is none of these
pub record HasNoPort (line : List ℕ) (held : List (List ℕ)) : Type 0 where
  pub port : ℕ
  pub piece : List ℕ
  pub mark : Option End
  pub written : IsPieceLine line port piece mark
  pub short : length piece ≤ MAX_PACKET
  pub other : length held ≤ port

-- why a line brings nothing: it has a fault, its piece is too long for its port, or memory was refused. What is held is
-- as before, except if memory was refused to a packet that ends: its port then holds all of its bytes
abbrev pub IsNotRead : List ℕ → (before after : List (List ℕ)) → LineFault → Type 0
IsNotRead line before after NoPort = HasFault mark_word line NoPort × (after ≡ before)
IsNotRead line before after BadMarker = HasFault mark_word line BadMarker × (after ≡ before)
IsNotRead line before after BadHex = HasFault mark_word line BadHex × (after ≡ before)
IsNotRead line before after TooLong = (HasFault mark_word line TooLong ⊎ Overfills line before) × (after ≡ before)
IsNotRead line before after Memory = (after ≡ before) ⊎ IsUnclosed line before after

-- the same, or there is no such port
abbrev pub IsNotFed : List ℕ → (before after : List (List ℕ)) → BadLine → Type 0
IsNotFed line before after (Line fault) = IsNotRead line before after fault
IsNotFed line before after NoSuchPort = HasNoPort line before × (after ≡ before)
IsNotFed line before after NoEvent = ⊥
IsNotFed line before after NoRoom = ⊥
