-- What the control write of a load asks.
use Rattle.std.specs.Prelude.{◌≡◌, ◌≤◌, ℕ, List, length}
use Rattle.rmap.specs.declared.boot.TheConstants.{STAGING_SIZE}
use Rattle.rmap.specs.Reply.{with_crc}
pub use Rattle.initiator.specs.Loads.{asked_for}
use Rattle.initiator.specs.Loads.{control_bytes_of}
use Rattle.rmap.specs.BootRecords.{control_of}

-- the data of the control write of a load, with their CRC, are read as what asks for that load
abbrev pub ControlDataAreRead : Type 0
ControlDataAreRead =
    (slot : ℕ) (image : List ℕ) → length image ≤ STAGING_SIZE
    → control_of (with_crc (control_bytes_of slot image)) ≡ asked_for slot image
