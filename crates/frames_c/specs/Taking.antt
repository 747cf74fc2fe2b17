-- Which bytes a call takes, and what they bring.
use Rattle.std.specs.Prelude.{◌≡◌, ◌≢◌, ◌<◌, ◌≤◌, ◌+◌, ℕ, List, [], ◌∷◌, length, drop, Option, Some, None}
use Rattle.frames.specs.Reading.{Reading, comes, reading_step}
use Rattle.frames.specs.Streams.{reading_after, received_in, onto}
use Rattle.frames.specs.declared.received.Received.{Received}
use Rattle.frames.specs.declared.received.Received.TheVariants.{Whole, Piece, Time, Other as Unknown}

-- What is whole of what a frame brings. If it brings bytes of a packet that goes on, it is nothing.
abbrev pub whole_of : Received → Option Received
whole_of (Whole packet) = Some (Whole packet)
whole_of Piece = None
whole_of Time = Some Time
whole_of (Unknown flag) = Some (Unknown flag)

-- what is whole of what came with a byte
abbrev pub whole_in : Option Received → Option Received
whole_in None = None
whole_in (Some received) = whole_of received

-- what is whole of all that came, in turn
abbrev pub wholes : List Received → List Received
wholes [] = []
wholes (received ∷ others) = onto (whole_of received) (wholes others)

-- how many bytes were taken, what came whole with the last of them, if anything did, and what was read then
pub record Taken : Type 0 where
  pub count : ℕ
  pub received : Option Received
  pub next : Reading

-- the same after a byte with which nothing came whole
abbrev pub after_byte : Taken → Taken
after_byte others = record { count = others.count + 1; received = others.received; next = others.next }

-- A byte with which this came whole, and which leaves that. If anything did, no other is taken.
abbrev pub taken_with : Option Received → Reading → (others : Taken) → Taken
taken_with None next others = after_byte others
taken_with (Some received) next others = record { count = 1; received = Some received; next = next }

-- bytes are taken up to the first with which something came whole, or all of them if nothing does
abbrev pub take_whole : Reading → List ℕ → Taken
take_whole s [] = record { count = 0; received = None; next = s }
take_whole s (byte ∷ bytes) = taken_with (whole_in (comes s byte)) (reading_step s byte) (take_whole (reading_step s byte) bytes)

-- what is taken again and again, until all bytes are taken, is read as the whole stream
pub record FramesAreTaken : Type 0 where
  -- At least one is taken, if there is one, and never more than there are. All are if nothing came whole.
  pub some : (s : Reading) (bytes : List ℕ) → bytes ≢ [] → 0 < (take_whole s bytes).count
  pub few : (s : Reading) (bytes : List ℕ) → (take_whole s bytes).count ≤ length bytes
  pub all : (s : Reading) (bytes : List ℕ) → (take_whole s bytes).received ≡ None → (take_whole s bytes).count ≡ length bytes
  -- what came whole first, and then what does of the others, is what does of all
  pub received : (s : Reading) (bytes : List ℕ)
      → wholes (received_in s bytes)
      ≡ onto (take_whole s bytes).received (wholes (received_in (take_whole s bytes).next (drop (take_whole s bytes).count bytes)))
  pub read : (s : Reading) (bytes : List ℕ)
      → reading_after s bytes ≡ reading_after (take_whole s bytes).next (drop (take_whole s bytes).count bytes)
