-- What a call that serves a packet does.
use Rattle.std.specs.Prelude.{◌≡◌, ℕ, List, length, nat_le, nat_lt, Option, Some, None, if◌then◌else◌, is_none, slice_get}
use Rattle.bank.specs.Records.{BankValue, journal_room_left}
use Rattle.rmap.specs.declared.reply.TheConstants.{MAX_REPLY}
use Rattle.scrub.specs.Guarded.{GuardedValue, ServesGuarded, is_damaged}
use Rattle.scrub.specs.declared.answer.ServedAnswer.{ServedAnswer}
use Rattle.single_node.specs.Nodes.{SingleNodeValue}
use Rattle.single_node_c.specs.Numbers.{end_of_number, served_numbers}
use Rattle.single_node_c.specs.Parts.{served_parts}
use Rattle.single_node_c.specs.declared.codes.TheConstants.{NO_PORT, BAD_END, DAMAGED, TOO_LONG, NO_ROOM}
use Rattle.single_node_c.specs.declared.numbers.ServedNumbers.{ServedNumbers}
use Rattle.spw.specs.Cargo.{Cargo}
use Rattle.spw.specs.declared.packets.TheConstants.{MAX_PACKET}
use Rattle.node_parts.specs.declared.served.Served.{Served}
use Rattle.node_parts.specs.declared.served.Served.TheVariants.{Stopped, Unread, Done, Window}

-- The first test that fails of a packet of that many bytes with that end, and of the room for its reply. If packets
-- have scrubs before them, the test of the node's sizes is first.
abbrev pub serve_test : (port size end room : ℕ) → GuardedValue → Option ℕ
serve_test port size end room g =
    if is_damaged g.guard g.node then Some DAMAGED
    else if nat_le (length g.node.passes) port then Some NO_PORT
    else if is_none (end_of_number end) then Some BAD_END
    else if nat_lt MAX_PACKET size then Some TOO_LONG
    else if nat_lt room MAX_REPLY then Some NO_ROOM
    else None

-- how many more entries the journal of a bank has room for, if there is that bank
abbrev pub journal_room_of : Option BankValue → ℕ
journal_room_of None = 0
journal_room_of (Some bank) = journal_room_left bank.journal

-- how many more entries the journal of the bank of that number has room for, after a command that ended there
abbrev pub room_after_command : Served → (number : ℕ) → SingleNodeValue → ℕ
room_after_command (Stopped stop) number node = 0
room_after_command Unread number node = 0
room_after_command (Done applied) number node = journal_room_of (slice_get node.banks number)
room_after_command (Window status) number node = 0

-- The packet was served at that port as a node whose programs may be scrubbed serves it (`ServesGuarded`, also for the
-- room). The numbers say what became of the packet, what its command asked for, and what a scrub before it found. They
-- also say which room the journal of its bank then has.
pub record ServesPacket (port : ℕ) (packet : Cargo) (before after : GuardedValue) (room left : List ℕ)
    (numbers : ServedNumbers) : Type 0 where
  pub answer : ServedAnswer
  pub serves : ServesGuarded answer port packet before after room left
  pub numbers_are : numbers
      ≡ served_numbers answer (served_parts packet)
      (room_after_command answer.reported.served (served_parts packet).extended after.node) answer.size

-- a packet of those bytes, with the end of that number, was served at that port (`ServesPacket`)
pub record ServesBytes (port : ℕ) (bytes : List ℕ) (end : ℕ) (room left : List ℕ) (numbers : ServedNumbers)
    (before after : GuardedValue) : Type 0 where
  pub packet : Cargo
  pub bytes_are : packet.bytes ≡ bytes
  pub end_is : end_of_number end ≡ Some packet.end
  pub serves : ServesPacket port packet before after room left numbers
