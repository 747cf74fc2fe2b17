-- A packet that is a command has a header of bytes.
use Rattle.std.proofs.Common.{◌≡◌, ◌<◌, ◌≤◌, ◌+◌, ◌-◌, Bool, true, false, length, drop, All, Some, None, refl, arith}
use Rattle.std.specs.Prelude.{nat_lt, if◌then◌else◌}
use Rattle.std.proofs.lemmas.Bool.{ltb-false}
use Rattle.std.proofs.lemmas.List.{length-take-le, length-drop}
use Rattle.std.proofs.lemmas.List.Elements.{All-take, All-drop}
use Rattle.spw.specs.Cargo.{Cargo}
use Rattle.rmap.specs.declared.discard.Discard.TheVariants.{Short, Protocol, Reply, HeaderCrc}
use Rattle.rmap.specs.Command.{discard_of, header_length, path_length, command_of}
use Rattle.machine.specs.Memory.{IsProgramHeader, header}

-- bytes that are not discarded are not too short for their header
kept : (none protocol reply short crc : Bool) → (if none then Some Short else if protocol then Some Protocol else if reply then Some Reply else if short then Some Short else if crc then Some HeaderCrc else None) ≡ None → short ≡ false
kept true protocol reply short crc is = absurd cc
kept false true reply short crc is = absurd cc
kept false false true short crc is = absurd cc
kept false false false true crc is = absurd cc
kept false false false false crc is = refl

has_header : (p : Cargo) → discard_of p.bytes ≡ None → 16 + path_length p.bytes ≤ length p.bytes
has_header p is = ltb-false (length p.bytes) (header_length p.bytes) (kept _ _ _ (nat_lt (length p.bytes) (header_length p.bytes)) _ is)

-- what a program sees of the command of a packet of bytes is a header
pub header_of_command : (p : Cargo) → discard_of p.bytes ≡ None → All (λ byte. byte < 256) p.bytes → IsProgramHeader (header (command_of p).front (command_of p).tail)
header_of_command p is bytes =
    let long = has_header p is in
    let following : length (drop (4 + path_length p.bytes) p.bytes) ≡ length p.bytes - (4 + path_length p.bytes) = length-drop (4 + path_length p.bytes) p.bytes in
    record {
      front = length-take-le 4 p.bytes (omega (arith, long));
      tail = length-take-le 12 (drop (4 + path_length p.bytes) p.bytes) (omega (arith, long, following));
      front_bytes = All-take (λ byte. byte < 256) 4 p.bytes bytes;
      tail_bytes = All-take (λ byte. byte < 256) 12 (drop (4 + path_length p.bytes) p.bytes) (All-drop (λ byte. byte < 256) (4 + path_length p.bytes) p.bytes bytes);
    }
