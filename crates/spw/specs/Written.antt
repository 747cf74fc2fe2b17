-- The line that writes a packet.
use Rattle.std.specs.Prelude.{◌<◌, ℕ, List, ◌∷◌, ◌++◌, All}
use Rattle.std.specs.Fmt.{decimal}
use Rattle.hex.specs.Hex.{encode_upper}
use Rattle.spw.specs.Cargo.{Cargo}
use Rattle.spw.specs.Line.{IsPacketLine, marker_word}
use Rattle.spw.specs.declared.lines.TheConstants.{PORTS}

-- The line of a packet at a port. It has the port, the bytes as pairs of upper case hexadecimal digits, and the end
-- marker, with a space (32) between them.
abbrev pub packet_line : (port : ℕ) → Cargo → List ℕ
packet_line port cargo = decimal port ++ 32 ∷ encode_upper cargo.bytes ++ 32 ∷ marker_word cargo.end

-- Such a line writes that packet at that port. Whether it is read depends only on its length.
abbrev pub WrittenLineIsRead : Type 0
WrittenLineIsRead =
    (port : ℕ) (cargo : Cargo) → port < PORTS → All (λ byte. byte < 256) cargo.bytes
    → IsPacketLine (packet_line port cargo) port cargo
