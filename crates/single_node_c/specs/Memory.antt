-- What calls on the memory of a bank report and do.
use Rattle.std.specs.Prelude.{◌≡◌, ◌<◌, ◌+◌, ℕ, List, length, nat_le, not, Option, Some, None, if◌then◌else◌, slice_get}
use Rattle.bank.specs.Limits.{is_room}
use Rattle.bank.specs.Records.{BankValue, byte_in}
use Rattle.single_node.specs.Nodes.{SingleNodeValue, covers_in}
use Rattle.single_node_c.specs.declared.codes.TheConstants.{OK, BAD_CONFIG, NO_BANK, NO_ROOM}

-- the code of a question for that many bytes from an address on of the bank of that number
abbrev pub peek_code : (number address count : ℕ) → SingleNodeValue → ℕ
peek_code number address count node =
    if nat_le (length node.banks) number then NO_BANK
    else if not (covers_in (slice_get node.banks number) address count) then NO_ROOM
    else OK

-- each byte is that of the bank of that number at its address, from the first one's on
pub record ReportsBytes (number address : ℕ) (bytes : List ℕ) (node : SingleNodeValue) : Type 0 where
  pub bank : BankValue
  pub own : slice_get node.banks number ≡ Some bank
  pub bytes_are : (k : ℕ) → k < length bytes → slice_get bytes k ≡ byte_in bank.first bank.bytes (address + k)

-- the first test that fails of bytes for an address of the bank of that number, and of the room of its new journal
abbrev pub poke_test : (number address count room : ℕ) → SingleNodeValue → Option ℕ
poke_test number address count room node =
    if nat_le (length node.banks) number then Some NO_BANK
    else if not (covers_in (slice_get node.banks number) address count) then Some NO_ROOM
    else if not (is_room room) then Some BAD_CONFIG
    else None
