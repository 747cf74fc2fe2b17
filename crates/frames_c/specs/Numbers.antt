-- The numbers of what came.
use Rattle.std.specs.Prelude.{ℕ, List, [], length, Option, Some, None}
use Rattle.frames.specs.Heads.{flag_code}
use Rattle.frames.specs.declared.received.Received.{Received}
use Rattle.frames.specs.declared.received.Received.TheVariants.{Whole, Piece, Time, Other as Unknown}
use Rattle.frames.specs.declared.flags.Flag.TheVariants.{Last}
use Rattle.frames_c.specs.declared.numbers.ReceivedNumbers.{ReceivedNumbers}
use Rattle.frames_c.specs.declared.numbers.TheConstants.{BRIDGE, NOTHING, PACKET, TIME}

-- The numbers of what came whole with the last of that many bytes, if anything did. The end of a packet is the first
-- byte of the frame that ends it.
abbrev pub received_numbers : (taken : ℕ) → Option Received → ReceivedNumbers
received_numbers taken None = record { taken = taken; length = 0; kind = NOTHING; end = 0; flag = 0; unused = 0 }
received_numbers taken (Some (Whole packet)) =
    record { taken = taken; length = length packet.bytes; kind = PACKET; end = flag_code (Last packet.end); flag = 0; unused = 0 }
received_numbers taken (Some Piece) = record { taken = taken; length = 0; kind = NOTHING; end = 0; flag = 0; unused = 0 }
received_numbers taken (Some Time) = record { taken = taken; length = 0; kind = TIME; end = 0; flag = 0; unused = 0 }
received_numbers taken (Some (Unknown flag)) = record { taken = taken; length = 0; kind = BRIDGE; end = 0; flag = flag; unused = 0 }

-- the numbers, if anything came
abbrev pub numbers_if : (taken : ℕ) → Option Received → Option ReceivedNumbers
numbers_if taken None = None
numbers_if taken (Some received) = Some (received_numbers taken (Some received))

-- the bytes of the packet that came, if one did
abbrev pub packet_in : Option Received → List ℕ
packet_in None = []
packet_in (Some (Whole packet)) = packet.bytes
packet_in (Some Piece) = []
packet_in (Some Time) = []
packet_in (Some (Unknown flag)) = []
