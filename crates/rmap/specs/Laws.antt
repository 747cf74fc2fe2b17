-- Laws about the definitions.
use Rattle.std.specs.Prelude.{◌≡◌, ◌≤◌, ◌<◌, ◌↔◌, ℕ, List, ◌++◌, length, take, All, None, false, bit_and}
use Rattle.spw.specs.Cargo.{Cargo}
use Rattle.spw.specs.declared.packets.End.{End}
use Rattle.spw.specs.declared.packets.TheConstants.{MAX_PACKET}
use Rattle.rmap.specs.declared.checks.TheConstants.{MAX_DATA}
use Rattle.rmap.specs.declared.instruction.TheConstants.{READ_MASK, READ_BITS, WRITE_MASK, WRITE_BITS, RMW_MASK}
use Rattle.rmap.specs.declared.instruction.TheConstants.{RMW_BITS, INCREMENT_BIT}
use Rattle.rmap.specs.declared.kind.Kind.TheVariants.{Read, Write, Rmw}
use Rattle.rmap.specs.declared.reply.TheConstants.{MAX_REPLY}
use Rattle.rmap.specs.declared.status.Status.{Status}
use Rattle.rmap.specs.Instruction.{has_increment_bit, kind_of}
use Rattle.rmap.specs.Command.{CommandValue, IsHeader, IsCommand, discard_of, command_of, front_fields, tail_fields}
use Rattle.rmap.specs.Windows.{WindowsValue}
use Rattle.rmap.specs.Checks.{header_check, header_line, body_line}
use Rattle.rmap.specs.Reply.{reply_of}

-- a command that the bytes are, and whose packet ended so
pub record IsReadAs (bytes : List ℕ) (end : End) : Type 0 where
  pub parts : CommandValue
  pub command : IsCommand bytes parts
  pub ended : parts.end ≡ end

-- no command is discarded
abbrev pub CommandsAreKept : Type 0
CommandsAreKept = (bytes : List ℕ) (c : CommandValue) → IsCommand bytes c → discard_of bytes ≡ None

-- bytes that are not discarded are a command, however the packet ended
abbrev pub KeptAreCommands : Type 0
KeptAreCommands = (bytes : List ℕ) (end : End) → discard_of bytes ≡ None → IsReadAs bytes end

-- bytes and an end marker are at most one command
abbrev pub CommandIsUnique : Type 0
CommandIsUnique = (bytes : List ℕ) (c d : CommandValue) → IsCommand bytes c → IsCommand bytes d → c.end ≡ d.end → c ≡ d

-- a path of 12 bytes, a header of 12, 4,096 bytes of data and their CRC are the longest reply
abbrev pub RepliesAreShort : Type 0
RepliesAreShort =
    (c : CommandValue) (status : Status) (bytes : List ℕ) → IsHeader c → length bytes ≤ MAX_DATA
    → length (reply_of c status bytes) ≤ MAX_REPLY

-- the bytes of a command are its fields in the standard's order, with the reply address between them and the body
-- after them
abbrev pub CommandsAreLaidOut : Type 0
CommandsAreLaidOut =
    (bytes : List ℕ) (c : CommandValue) → IsCommand bytes c → All (λ b. b < 256) bytes → bytes ≡ front_fields c
    ++ c.reply_address ++ tail_fields c ++ c.body

-- An instruction byte is of a kind if and only if, under the kind's mask, it is the kind's bits. It has no increment
-- if and only if it is 0 under the increment bit (ECSS-E-ST-50-52C, instruction field).
pub record MasksGiveKinds : Type 0 where
  pub read : (byte : ℕ) → byte < 256 → (bit_and byte READ_MASK ≡ READ_BITS) ↔ (kind_of byte ≡ Read)
  pub write : (byte : ℕ) → byte < 256 → (bit_and byte WRITE_MASK ≡ WRITE_BITS) ↔ (kind_of byte ≡ Write)
  pub rmw : (byte : ℕ) → byte < 256 → (bit_and byte RMW_MASK ≡ RMW_BITS) ↔ (kind_of byte ≡ Rmw)
  pub increment : (byte : ℕ) → byte < 256 → (bit_and byte INCREMENT_BIT ≡ 0) ↔ (has_increment_bit byte ≡ false)

-- the parts of two headers are the same
pub record HaveSameHeader (c d : CommandValue) : Type 0 where
  pub front : c.front ≡ d.front
  pub reply_address : c.reply_address ≡ d.reply_address
  pub tail : c.tail ≡ d.tail

-- the first 4,200 bytes of a packet, with its end
abbrev pub cut_to_longest : Cargo → Cargo
cut_to_longest p = record { bytes = take MAX_PACKET p.bytes; end = p.end }

-- A packet has 4,200 bytes or more. Its first 4,200 are discarded for the same reason, or have the same header. The
-- same check of the header stops both. If none does, the same check of the body stops both.
pub record LongPacketIsCut : Type 0 where
  pub discarded : (p : Cargo) → MAX_PACKET ≤ length p.bytes
      → discard_of (cut_to_longest p).bytes ≡ discard_of p.bytes
  pub header : (p : Cargo) → MAX_PACKET ≤ length p.bytes
      → HaveSameHeader (command_of (cut_to_longest p)) (command_of p)
  pub checks : (p : Cargo) (w : WindowsValue) → MAX_PACKET ≤ length p.bytes
      → header_check (command_of (cut_to_longest p)) w ≡ header_check (command_of p) w
  pub line : (p : Cargo) (w : WindowsValue) → MAX_PACKET ≤ length p.bytes
      → header_line (command_of (cut_to_longest p)) w ≡ header_line (command_of p) w
  pub body : (p : Cargo) (w : WindowsValue) → MAX_PACKET ≤ length p.bytes → header_line (command_of p) w ≡ None
      → body_line (command_of (cut_to_longest p)) ≡ body_line (command_of p)
