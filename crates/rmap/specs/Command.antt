-- Commands as bytes (ECSS-E-ST-50-52C, write command format, read command format and
-- read-modify-write command format). Fields of several bytes have the most significant byte first.
use Rattle.std.specs.Prelude.{◌≡◌, ◌≤◌, ℕ, ◌+◌, ◌-◌, Bool, ◌==◌, not, nat_lt, if◌then◌else◌, List, [], ◌∷◌, ◌++◌}
use Rattle.std.specs.Prelude.{length, take, drop, slice_index, Option, None, Some, Result, Ok}
use Rattle.byteorder.specs.Endian.{big_bytes, big_number}
use Rattle.rcrc.specs.Crc.{crc_of}
use Rattle.spw.specs.declared.packets.End.{End}
use Rattle.spw.specs.Cargo.{Cargo}
use Rattle.rmap.specs.declared.kind.Kind.{Kind}
use Rattle.rmap.specs.declared.discard.Discard.{Discard}
use Rattle.rmap.specs.declared.discard.Discard.TheVariants.{Short, Protocol, Reply, HeaderCrc}
use Rattle.rmap.specs.Instruction.{packet_type, kind_of, has_write_bit, has_verify_bit, has_reply_bit}
use Rattle.rmap.specs.Instruction.{has_increment_bit, reply_address_length}

-- the parts of a command in the order of its bytes, and how its packet ended
pub record CommandValue : Type 0 where
  -- target logical address, protocol identifier, instruction, key
  pub front : List ℕ
  -- the reply address
  pub reply_address : List ℕ
  -- initiator logical address, transaction identifier, extended address, address, data length, header CRC
  pub tail : List ℕ
  -- what follows the header: data and data CRC, if the command has them
  pub body : List ℕ
  pub end : End

-- the target logical address field, byte 0
abbrev pub target_of : CommandValue → ℕ
target_of c = slice_index c.front 0

-- the protocol identifier field, byte 1
abbrev pub protocol_of : CommandValue → ℕ
protocol_of c = slice_index c.front 1

-- the instruction field, byte 2
abbrev pub instruction_of : CommandValue → ℕ
instruction_of c = slice_index c.front 2

-- the key field, byte 3
abbrev pub key_of : CommandValue → ℕ
key_of c = slice_index c.front 3

-- the initiator logical address field, the first byte after the reply address
abbrev pub initiator_of : CommandValue → ℕ
initiator_of c = slice_index c.tail 0

-- the transaction identifier field, two bytes
abbrev pub transaction_of : CommandValue → ℕ
transaction_of c = big_number 2 (drop 1 c.tail)

-- the extended address field, one byte
abbrev pub extended_of : CommandValue → ℕ
extended_of c = slice_index c.tail 3

-- the address field, four bytes
abbrev pub address_of : CommandValue → ℕ
address_of c = big_number 4 (drop 4 c.tail)

-- the data length field, three bytes
abbrev pub length_of : CommandValue → ℕ
length_of c = big_number 3 (drop 8 c.tail)

-- the header CRC field, the last byte of the header
abbrev pub header_crc_of : CommandValue → ℕ
header_crc_of c = slice_index c.tail 11

-- what the command asks for
abbrev pub command_kind : CommandValue → Kind
command_kind c = kind_of (instruction_of c)

-- whether the instruction has the write bit
abbrev pub writes : CommandValue → Bool
writes c = has_write_bit (instruction_of c)

-- whether the instruction has the verify bit
abbrev pub verifies : CommandValue → Bool
verifies c = has_verify_bit (instruction_of c)

-- whether the instruction has the reply bit
abbrev pub wants_reply : CommandValue → Bool
wants_reply c = has_reply_bit (instruction_of c)

-- whether the instruction has the increment bit
abbrev pub increments : CommandValue → Bool
increments c = has_increment_bit (instruction_of c)

-- the bytes of the command
abbrev pub bytes_of : CommandValue → List ℕ
bytes_of c = c.front ++ c.reply_address ++ c.tail ++ c.body

-- the header without its CRC
abbrev pub header_of : CommandValue → List ℕ
header_of c = c.front ++ c.reply_address ++ take 11 c.tail

-- a header of RMAP: each part has its length, the protocol identifier is 1, the packet is no reply, and the header
-- CRC is right
pub record IsHeader (c : CommandValue) : Type 0 where
  pub front : length c.front ≡ 4
  pub reply_address : length c.reply_address ≡ reply_address_length (instruction_of c)
  pub tail : length c.tail ≡ 12
  pub protocol : protocol_of c ≡ 1
  pub no_reply : 1 ≤ packet_type (instruction_of c)
  pub crc : header_crc_of c ≡ crc_of (header_of c)

-- the bytes are the command: its header, then any body
pub record IsCommand (bytes : List ℕ) (c : CommandValue) : Type 0 where
  pub header : IsHeader c
  pub parts : bytes ≡ bytes_of c

-- how many bytes the header has, by the instruction in the third byte
abbrev pub header_length : List ℕ → ℕ
header_length bytes = 16 + reply_address_length (slice_index bytes 2)

-- whether the last byte of the header is the CRC of those before it
abbrev pub has_header_crc : List ℕ → Bool
has_header_crc bytes =
    slice_index bytes (header_length bytes - 1) == crc_of (take (header_length bytes - 1) bytes)

-- why bytes are no command: the first case that holds
abbrev pub discard_of : List ℕ → Option Discard
discard_of bytes =
    if nat_lt (length bytes) 3 then Some Short
    else if not (slice_index bytes 1 == 1) then Some Protocol
    else if packet_type (slice_index bytes 2) == 0 then Some Reply
    else if nat_lt (length bytes) (header_length bytes) then Some Short
    else if not (has_header_crc bytes) then Some HeaderCrc
    else None

-- the bytes are discarded for that reason
abbrev pub IsDiscarded : List ℕ → Discard → Type 0
IsDiscarded bytes reason = discard_of bytes ≡ Some reason

-- if the packet's bytes are a command with the packet's end, that command is given
abbrev pub GivesAnyCommandOf : Cargo → Result CommandValue Discard → Type 0
GivesAnyCommandOf p given = (c : CommandValue) → IsCommand p.bytes c → c.end ≡ p.end → given ≡ Ok c

-- the four fields before the reply address
abbrev pub front_fields : CommandValue → List ℕ
front_fields c = target_of c ∷ protocol_of c ∷ instruction_of c ∷ key_of c ∷ []

-- the fields after the reply address, each with its most significant byte first
abbrev pub tail_fields : CommandValue → List ℕ
tail_fields c =
    initiator_of c ∷ [] ++ big_bytes 2 (transaction_of c) ++ extended_of c ∷ []
    ++ big_bytes 4 (address_of c) ++ big_bytes 3 (length_of c) ++ header_crc_of c ∷ []

-- how many bytes the reply address has, by the third byte
abbrev pub path_length : List ℕ → ℕ
path_length bytes = reply_address_length (slice_index bytes 2)

-- the bytes of a packet, cut into the parts of a command
abbrev pub command_of : Cargo → CommandValue
command_of p = record {
  front = take 4 p.bytes;
  reply_address = take (path_length p.bytes) (drop 4 p.bytes);
  tail = take 12 (drop (4 + path_length p.bytes) p.bytes);
  body = drop (16 + path_length p.bytes) p.bytes;
  end = p.end;
}
