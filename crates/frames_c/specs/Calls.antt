-- What a call does to the reader of a handle.
use Rattle.std.specs.Prelude.{◌≡◌, ◌≢◌, ◌⊎◌, ℕ, List, length, nat_lt, Option, Some, None, if◌then◌else◌}
use Rattle.frames.specs.Reading.{Reading, first_reading}
use Rattle.frames_c.specs.Whole.{CheckedReading, checked, is_whole}
use Rattle.frames_c.specs.Numbers.{received_numbers, packet_in}
use Rattle.spw.specs.Rooms.{put_front}
use Rattle.frames_c.specs.Taking.{take_whole}
use Rattle.frames_c.specs.declared.codes.TheConstants.{DAMAGED, IS_OPEN, NO_MEMORY, NO_NODE, NO_ROOM, OK}
use Rattle.frames_c.specs.declared.numbers.ReceivedNumbers.{ReceivedNumbers}
use Rattle.spw.specs.declared.packets.TheConstants.{MAX_PACKET}

-- A reader is opened that has read nothing, or memory was refused. One that is open stays as it is.
abbrev pub OpensFrames : (old new : Option CheckedReading) → (code : ℕ) → Type 0
OpensFrames None new code = ((code ≡ OK) × (new ≡ Some (checked first_reading))) ⊎ ((code ≡ NO_MEMORY) × (new ≡ None))
OpensFrames (Some s) new code = (code ≡ IS_OPEN) × (new ≡ Some s)

-- The code of a call that takes bytes: that of the first test that fails. A reader that is not whole takes none.
abbrev pub take_code : Option CheckedReading → (room : ℕ) → ℕ
take_code None room = NO_NODE
take_code (Some s) room = if is_whole s then (if nat_lt room MAX_PACKET then NO_ROOM else OK) else DAMAGED

-- Bytes were taken up to the first with which something came whole, or all of them if nothing does (`take_whole`). The
-- numbers say how many and what came. A packet is at the front of the room, with the rest of it as before, and that
-- much was read. The reader is whole then.
pub record TakesBytes (bytes room left : List ℕ) (numbers : ReceivedNumbers) (s next : CheckedReading) : Type 0 where
  pub numbers_are : numbers ≡ received_numbers (take_whole s.reading bytes).count (take_whole s.reading bytes).received
  pub left_is : left ≡ put_front room (packet_in (take_whole s.reading bytes).received)
  pub next_is : next ≡ checked (take_whole s.reading bytes).next

-- the handle held a reader and holds one, which are in that relation
abbrev pub BecomesReader : (CheckedReading → CheckedReading → Type 0) → (old new : Option CheckedReading) → Type 0
BecomesReader Relates None new = ⊥
BecomesReader Relates (Some before) None = ⊥
BecomesReader Relates (Some before) (Some after) = Relates before after

-- What a call that takes bytes answers and does. At any code except `OK` the reader, the room and the numbers are as
-- before.
pub record TakesFrames (bytes room left : List ℕ) (before reported : ReceivedNumbers) (old new : Option CheckedReading) (code : ℕ) : Type 0 where
  pub is_code : code ≡ take_code old (length room)
  pub taken : code ≡ OK → BecomesReader (TakesBytes bytes room left reported) old new
  pub same_reader : code ≢ OK → new ≡ old
  pub same_room : code ≢ OK → left ≡ room
  pub same_numbers : code ≢ OK → reported ≡ before
