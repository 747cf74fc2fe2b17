-- What a reader of frames has read, and what a byte does to it.
use Rattle.std.specs.Prelude.{◌≡◌, ℕ, ◌+◌, ◌-◌, ◌==◌, ◌&&◌, nat_lt, Bool, true, false, if◌then◌else◌, List, [], ◌∷◌, ◌++◌, length, Option, Some, None}
use Rattle.spw.specs.Cargo.{Cargo}
use Rattle.spw.specs.declared.packets.TheConstants.{MAX_PACKET}
use Rattle.frames.specs.Heads.{head_of}
use Rattle.frames.specs.declared.flags.Flag.{Flag}
use Rattle.frames.specs.declared.flags.Flag.TheVariants.{Last, Part, SendTime, GotTime, Other}
use Rattle.frames.specs.declared.heads.TheConstants.{HEAD_LENGTH}
use Rattle.frames.specs.declared.received.Received.{Received}
use Rattle.frames.specs.declared.received.Received.TheVariants.{Whole, Piece, Time, Other as Unknown}

-- What was read. It has the bytes of a head that is not whole yet, what the current frame is, and how many of its bytes
-- are left. It also has what is held of a packet that has not ended.
pub record Reading : Type 0 where
  pub head : List ℕ
  pub flag : Flag
  pub left : ℕ
  pub held : List ℕ

-- the same by its parts
abbrev pub reading : (head : List ℕ) → Flag → (left : ℕ) → (held : List ℕ) → Reading
reading head flag left held = record { head = head; flag = flag; left = left; held = held }

-- nothing was read of a frame, and nothing is held
abbrev pub first_reading : Reading
first_reading = record { head = []; flag = Part; left = 0; held = [] }

-- whether such a frame carries bytes of a packet
abbrev pub is_cargo : Flag → Bool
is_cargo (Last end) = true
is_cargo Part = true
is_cargo SendTime = false
is_cargo GotTime = false
is_cargo (Other code) = false

-- What is held after one byte more. Path address bytes, which are below 32, are dropped before a packet begins. So is
-- all that would be past 4,200 bytes.
abbrev pub keep : List ℕ → ℕ → List ℕ
keep held byte =
    if length held == 0 && nat_lt byte 32 then held
    else if nat_lt (length held) MAX_PACKET then held ++ byte ∷ []
    else held

-- what is held after a byte of the body of such a frame
abbrev pub held_with : Flag → List ℕ → ℕ → List ℕ
held_with flag held byte = if is_cargo flag then keep held byte else held

-- a byte more of a head
abbrev pub in_head : Reading → ℕ → Reading
in_head s byte =
    if nat_lt (length s.head + 1) HEAD_LENGTH then
    record { head = s.head ++ byte ∷ []; flag = s.flag; left = 0; held = s.held }
    else
    record {
      head = [];
      flag = (head_of (s.head ++ byte ∷ [])).flag;
      left = (head_of (s.head ++ byte ∷ [])).length;
      held = s.held;
    }

-- a byte more of a body
abbrev pub in_body : Reading → ℕ → Reading
in_body s byte = record { head = s.head; flag = s.flag; left = s.left - 1; held = held_with s.flag s.held byte }

-- a byte more
abbrev pub next : Reading → ℕ → Reading
next s byte = if s.left == 0 then in_head s byte else in_body s byte

-- whether a frame has ended
abbrev pub is_between : Reading → Bool
is_between s = s.left == 0 && length s.head == 0

-- what a frame of this kind brings, with what is held then
abbrev pub received_of : Flag → List ℕ → Received
received_of (Last end) held = Whole (record { bytes = held; end = end })
received_of Part held = Piece
received_of SendTime held = Time
received_of GotTime held = Time
received_of (Other code) held = Unknown code

-- what is held after a frame of this kind
abbrev pub rest_of : Flag → List ℕ → List ℕ
rest_of (Last end) held = []
rest_of Part held = held
rest_of SendTime held = held
rest_of GotTime held = held
rest_of (Other code) held = held

-- after the end of a frame
abbrev pub after_end : Reading → Reading
after_end s = record { head = s.head; flag = s.flag; left = s.left; held = rest_of s.flag s.held }

-- what comes with a byte, if it ends a frame
abbrev pub comes : Reading → ℕ → Option Received
comes s byte = if is_between (next s byte) then Some (received_of (next s byte).flag (next s byte).held) else None

-- what was read after a byte
abbrev pub reading_step : Reading → ℕ → Reading
reading_step s byte = if is_between (next s byte) then after_end (next s byte) else next s byte
