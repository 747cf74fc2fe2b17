-- Frames in a stream of bytes, and what a reader makes of them.
use Rattle.std.specs.Prelude.{◌≡◌, ◌<◌, ◌≤◌, ℕ, ◌^◌, if◌then◌else◌, List, [], ◌∷◌, ◌++◌, All, length, map, take, Option, Some, None}
use Rattle.byteorder.specs.Endian.{big_bytes}
use Rattle.std.specs.List.{concat}
use Rattle.spw.specs.Paths.{without_path}
use Rattle.spw.specs.declared.packets.End.{End}
use Rattle.spw.specs.declared.packets.End.TheVariants.{Eop}
use Rattle.spw.specs.declared.packets.TheConstants.{MAX_PACKET}
use Rattle.frames.specs.declared.received.Received.{Received}
use Rattle.frames.specs.declared.received.Received.TheVariants.{Whole, Piece}
use Rattle.frames.specs.declared.flags.Flag.{Flag}
use Rattle.frames.specs.declared.flags.Flag.TheVariants.{Last, Part}
use Rattle.frames.specs.Heads.{flag_code, flag_of}
use Rattle.frames.specs.Reading.{Reading, received_of, comes, is_cargo, keep, rest_of, reading_step}

-- what was read after some bytes
abbrev pub reading_after : Reading → List ℕ → Reading
reading_after s [] = s
reading_after s (byte ∷ bytes) = reading_after (reading_step s byte) bytes

-- what came first, if anything did, and what came after it
abbrev pub onto : Option Received → List Received → List Received
onto None others = others
onto (Some first) others = first ∷ others

-- what came with some bytes, in turn
abbrev pub received_in : Reading → List ℕ → List Received
received_in s [] = []
received_in s (byte ∷ bytes) = onto (comes s byte) (received_in (reading_step s byte) bytes)

-- between two frames, the last of which was of that kind
abbrev pub between : Flag → (held : List ℕ) → Reading
between flag held = record { head = []; flag = flag; left = 0; held = held }

-- the bytes of a frame: its first byte, the reserved one, ten that say how many follow, and these
abbrev pub frame_bytes : (code reserved : ℕ) → (body : List ℕ) → List ℕ
frame_bytes code reserved body = code ∷ reserved ∷ big_bytes 10 (length body) ++ body

-- what is held after bytes of a packet
abbrev pub keep_all : List ℕ → List ℕ → List ℕ
keep_all held [] = held
keep_all held (byte ∷ bytes) = keep_all (keep held byte) bytes

-- what is held after the body of such a frame
abbrev pub held_after : Flag → List ℕ → List ℕ → List ℕ
held_after flag held body = if is_cargo flag then keep_all held body else held

-- what a target takes of a packet that came over a link: its bytes after the path, the first 4,200 of them
abbrev pub cargo_of : List ℕ → List ℕ
cargo_of bytes = take MAX_PACKET (without_path bytes)

-- the bytes of the frames of a packet in pieces, the last of which ends it so
abbrev pub packet_bytes : (pieces : List (List ℕ)) → (last : List ℕ) → End → List ℕ
packet_bytes [] last end = frame_bytes (flag_code (Last end)) 0 last
packet_bytes (piece ∷ pieces) last end = frame_bytes (flag_code Part) 0 piece ++ packet_bytes pieces last end

-- What comes of a packet in pieces. Once for each piece before the last, it is that the packet goes on. Then it is what
-- a target takes of the bytes of all pieces.
abbrev pub packet_received : (pieces : List (List ℕ)) → (last : List ℕ) → End → List Received
packet_received pieces last end =
    map (λ (piece : List ℕ). Piece) pieces ++ Whole (record { bytes = cargo_of (concat pieces ++ last); end = end }) ∷ []

-- the bytes of the frame of a reply: a packet that ends in EOP, in one frame
abbrev pub reply_frame_of : List ℕ → List ℕ
reply_frame_of reply = frame_bytes (flag_code (Last Eop)) 0 reply

-- frames are read as what they carry, however the stream is cut
pub record FramesAreRead : Type 0 where
  -- bytes that come in two parts are read as they are at once
  pub parts : (s : Reading) (first others : List ℕ) → reading_after s (first ++ others) ≡ reading_after (reading_after s first) others
  pub received : (s : Reading) (first others : List ℕ) → received_in s (first ++ others) ≡ received_in s first ++ received_in (reading_after s first) others
  -- a frame, whatever its kind and its reserved byte, with fewer than 2⁸⁰ bytes, is read to its end and no further
  pub read : (last : Flag) (held : List ℕ) (code reserved : ℕ) (body : List ℕ) → length body < 256 ^ 10
      → reading_after (between last held) (frame_bytes code reserved body)
      ≡ between (flag_of code) (rest_of (flag_of code) (held_after (flag_of code) held body))
  -- and brings one thing
  pub brought : (last : Flag) (held : List ℕ) (code reserved : ℕ) (body : List ℕ) → length body < 256 ^ 10
      → received_in (between last held) (frame_bytes code reserved body)
      ≡ received_of (flag_of code) (held_after (flag_of code) held body) ∷ []
  -- A packet comes as what a target takes of it, in however many pieces it was cut. After it nothing is held.
  pub packet : (before : Flag) (pieces : List (List ℕ)) (last : List ℕ) (end : End)
      → All (λ piece. length piece < 256 ^ 10) pieces → length last < 256 ^ 10
      → (reading_after (between before []) (packet_bytes pieces last end) ≡ between (Last end) [])
      × (received_in (between before []) (packet_bytes pieces last end) ≡ packet_received pieces last end)
  -- the frame of a reply that has no path in front is read as that reply
  pub reply : (before : Flag) (reply : List ℕ) → without_path reply ≡ reply → length reply ≤ MAX_PACKET
      → received_in (between before []) (reply_frame_of reply) ≡ Whole (record { bytes = reply; end = Eop }) ∷ []
  -- what is held of a packet is what a target takes of it
  pub kept : (bytes : List ℕ) → keep_all [] bytes ≡ cargo_of bytes
