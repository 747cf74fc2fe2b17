-- What calls on journals report and do.
use Rattle.std.specs.Prelude.{◌≡◌, ◌+◌, ℕ, List, [], length, nat_le, nat_lt, not, Option, Some, None, Result, Ok, Err, if◌then◌else◌, slice_get}
use Rattle.bank.specs.Limits.{is_room}
use Rattle.bank.specs.Records.{BankValue, EntryValue, is_whole}
use Rattle.scrub.specs.Guarded.{GuardedValue}
use Rattle.single_node.specs.Nodes.{SingleNodeValue, room_in}
use Rattle.single_node_c.specs.Numbers.{entry_numbers}
use Rattle.spw.specs.Rooms.{put_front}
use Rattle.single_node_c.specs.declared.codes.TheConstants.{OK, BAD_CONFIG, DAMAGED, NO_BANK, NO_ENTRY, NO_ROOM}
use Rattle.single_node_c.specs.declared.numbers.EntryNumbers.{EntryNumbers}
use Rattle.single_node_c.specs.declared.numbers.JournalNumbers.{JournalNumbers}

-- the code of a question on a bank of that number
abbrev pub bank_code : (number : ℕ) → SingleNodeValue → ℕ
bank_code number node = if nat_le (length node.banks) number then NO_BANK else OK

-- how many entries the journal of the bank of that number has, and how many programs were loaded after the factory
-- program
pub record ReportsJournal (number : ℕ) (numbers : JournalNumbers) (node : SingleNodeValue) : Type 0 where
  pub bank : BankValue
  pub own : slice_get node.banks number ≡ Some bank
  pub entries : numbers.entries ≡ length bank.journal.entries
  pub loaded : numbers.loaded + 1 ≡ length node.programs
  pub unused : numbers.unused ≡ 0

-- the entries of a bank, if there is one
abbrev pub entries_of_bank : Option BankValue → List EntryValue
entries_of_bank None = []
entries_of_bank (Some bank) = bank.journal.entries

-- an entry, or the code that there is none, or that it is not as it was made
abbrev pub found_entry : Option EntryValue → Result EntryValue ℕ
found_entry None = Err NO_ENTRY
found_entry (Some entry) = if is_whole entry then Ok entry else Err DAMAGED

-- the entry at a place of the journal of the bank of that number, or the code that there is no such bank or entry
abbrev pub entry_at : (number place : ℕ) → SingleNodeValue → Result EntryValue ℕ
entry_at number place node =
    if nat_le (length node.banks) number then Err NO_BANK
    else found_entry (slice_get (entries_of_bank (slice_get node.banks number)) place)

-- the code of a question for an entry, by the room for its packet
abbrev pub room_code : Result EntryValue ℕ → (room : ℕ) → ℕ
room_code (Err code) room = code
room_code (Ok entry) room = if nat_lt room (length entry.packet.bytes) then NO_ROOM else OK

-- the code of a question for the entry at a place of the journal of the bank of that number
abbrev pub entry_code : (number place room : ℕ) → SingleNodeValue → ℕ
entry_code number place room node = room_code (entry_at number place node) room

-- The entry at that place of the journal of the bank of that number: its numbers, and its packet at the front of the
-- room. The rest of the room is as before.
pub record ReportsEntry (number place : ℕ) (room left : List ℕ) (numbers : EntryNumbers) (node : SingleNodeValue) : Type 0
  where
    pub entry : EntryValue
    pub found : entry_at number place node ≡ Ok entry
    pub left_is : left ≡ put_front room entry.packet.bytes
    pub numbers_are : numbers ≡ entry_numbers entry

-- the first test that fails of a new journal of that room at the bank of that number
abbrev pub rotate_test : (number room : ℕ) → SingleNodeValue → Option ℕ
rotate_test number room node =
    if nat_le (length node.banks) number then Some NO_BANK else if not (is_room room) then Some BAD_CONFIG else None

-- How many entries the journal of the bank of that number has room for in all, of the node of a handle. If there is no
-- node or no such bank, it is 0.
abbrev pub room_at : Option GuardedValue → (number : ℕ) → ℕ
room_at None number = 0
room_at (Some guarded) number = room_in (slice_get guarded.node.banks number)
