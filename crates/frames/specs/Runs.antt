-- Bytes that a reader takes at once.
use Rattle.std.specs.Prelude.{◌≡◌, ◌≤◌, ◌⊎◌, ℕ, ◌-◌, List, [], ◌∷◌, length, take, true}
use Rattle.frames.specs.Reading.{Reading, in_head, is_between}
use Rattle.frames.specs.Streams.{held_after}
use Rattle.frames.specs.declared.flags.Flag.{Flag}
use Rattle.frames.specs.declared.flags.Flag.TheVariants.{Last, Part, SendTime, GotTime, Other}

-- bytes of a body, no more than are left of it
abbrev pub in_run : Reading → List ℕ → Reading
in_run s bytes =
    record { head = s.head; flag = s.flag; left = s.left - length bytes; held = held_after s.flag s.held bytes }

-- one byte of a head was taken, or bytes of a body, no more than are left of it
abbrev pub IsRun : Reading → List ℕ → Reading → Type 0
IsRun s [] next = ⊥
IsRun s (byte ∷ bytes) next =
    ((s.left ≡ 0) × (bytes ≡ []) × (next ≡ in_head s byte))
    ⊎ ((length (byte ∷ bytes) ≤ s.left) × (next ≡ in_run s (byte ∷ bytes)))

-- a packet ends with such a frame
abbrev pub EndsPacket : Flag → Type 0
EndsPacket (Last end) = Unit {0}
EndsPacket Part = ⊥
EndsPacket SendTime = ⊥
EndsPacket GotTime = ⊥
EndsPacket (Other code) = ⊥

-- Bytes were taken up to one that ends a frame, and there was no memory for the packet that ended. What was held is
-- still held.
pub record EndsUnpacked (s : Reading) (bytes : List ℕ) (next : Reading) : Type 0 where
  pub count : ℕ
  pub few : count ≤ length bytes
  pub run : IsRun s (take count bytes) next
  pub ended : is_between next ≡ true
  pub packet : EndsPacket next.flag
