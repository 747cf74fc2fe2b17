-- A node of one thread, as its contracts see it.
use Rattle.std.specs.Prelude.{◌≡◌, ◌≤◌, ℕ, List, length, Option, None, Some, Bool, false, slice_get, slice_set}
use Rattle.std.specs.Option.{option_map}
use mathlib.Core.List.{IsPrefix}
use base.Stored.{gnil}
use Rattle.bank.specs.Records.{BankValue, JournalValue, after_rotation, after_setting, base_of, covers}
use Rattle.bank.specs.Records.{empty_journal, memory_of, replay}
use Rattle.bver.specs.Justified.{AcceptedValue}
use Rattle.node_programs.specs.declared.publishes.Publish.{Publish}
use Rattle.node_programs.specs.Histories.{longer_history}
use Rattle.node_programs.specs.Published.{program_at, sizes_of}
use Rattle.node_programs.specs.Staged.{Staged}
use Rattle.node_parts.specs.declared.config.NodeConfig.{NodeConfig}
use Rattle.node_parts.specs.Nodes.{first_passes, first_programs, fresh_banks}
use Rattle.node_parts.specs.Pairs.{ArePaired}
use Rattle.node_parts.specs.Passes.{PassValue}
use Rattle.node_parts.specs.Slots.{slot_of}
use Rattle.plain_cells.specs.Words.{zero_words}
use Rattle.rmap.specs.Checks.{header_line}
use Rattle.rmap.specs.Command.{CommandValue, command_kind, command_of, discard_of}
use Rattle.rmap.specs.Windows.{WindowsValue, place_of}
use Rattle.rmap.specs.declared.discard.Discard.{Discard}
use Rattle.rmap.specs.declared.places.Place.{Place}
use Rattle.rmap.specs.declared.status.Status.{Status}
use Rattle.spw.specs.Cargo.{Cargo}

-- A node of one thread: its banks, the word of each cell, by map and key, and what each port has. It also has the list
-- of what was published, which begins with the factory program.
pub record SingleNodeValue : Type 0 where
  pub banks : List BankValue
  pub words : List (List ℕ)
  pub programs : List Publish
  pub passes : List PassValue

-- the node of these banks, words, programs and ports
abbrev pub single_node : List BankValue → List (List ℕ) → List Publish → List PassValue → SingleNodeValue
single_node banks words programs passes =
    record { banks = banks; words = words; programs = programs; passes = passes }

-- A fresh node of that configuration: banks of zero bytes, cells of 0, and ports that have sent nothing. Only the
-- factory program was published, and it judges in each slot.
abbrev pub IsFreshNode : NodeConfig → AcceptedValue → SingleNodeValue → Type 0
IsFreshNode config factory node =
    node
    ≡ single_node (fresh_banks config) (zero_words factory.sizes) (first_programs factory)
    (first_passes config factory gnil)

-- what the port knows begins the list of what was published, and it has a seat at the cells of the node's maps
pub record IsInformed (programs : List Publish) (h : PassValue) : Type 0 where
  pub begins : IsPrefix h.programs programs
  pub sizes : h.seat.sizes ≡ sizes_of programs

-- Banks and ports were made together, or are as packets left them, and each port is informed. There are at most 32
-- ports and 8 banks.
pub record IsSingleNode (s : SingleNodeValue) : Type 0 where
  pub paired : ArePaired s.banks s.passes
  pub informed : (k : ℕ) (h : PassValue) → slice_get s.passes k ≡ Some h → IsInformed s.programs h
  pub few_ports : length s.passes ≤ 32
  pub few_banks : length s.banks ≤ 8

-- the staging of a port, if there is that port
abbrev pub staging_in : Option PassValue → Option Staged
staging_in None = None
staging_in (Some h) = Some h.staging

-- the slot whose program judges a command, by the first check of its header that stops it, if one does, and by its place
abbrev pub slot_past : (line : Option Status) → (place : Option Place) → CommandValue → Option ℕ
slot_past None place c = option_map (slot_of (command_kind c)) place
slot_past (Some status) place c = None

-- the same by why the packet is no command, if it is none
abbrev pub slot_unless : (discard : Option Discard) → WindowsValue → CommandValue → Option ℕ
slot_unless None windows c = slot_past (header_line c windows) (place_of c windows) c
slot_unless (Some discard) windows c = None

-- the slot whose program judges the command of a packet under those windows, if one does
abbrev pub slot_asked : WindowsValue → Cargo → Option ℕ
slot_asked windows p = slot_unless (discard_of p.bytes) windows (command_of p)

-- the same at a port, if there is that port
abbrev pub port_slot_in : Option PassValue → Cargo → Option ℕ
port_slot_in None p = None
port_slot_in (Some h) p = slot_asked h.windows p

-- that many bytes from an address on lie in the bank, if there is one
abbrev pub covers_in : Option BankValue → (address count : ℕ) → Bool
covers_in None address count = false
covers_in (Some b) address count = covers b address count

-- how many entries the journal of a bank has room for in all, if there is that bank
abbrev pub room_in : Option BankValue → ℕ
room_in None = 0
room_in (Some b) = b.journal.room

-- the node with another bank of that number
abbrev pub with_bank : SingleNodeValue → (number : ℕ) → BankValue → SingleNodeValue
with_bank node number bank = record node { banks = slice_set node.banks number bank }

-- the node with one publish more
abbrev pub with_program : SingleNodeValue → (slot : ℕ) → AcceptedValue → SingleNodeValue
with_program node slot program = record node { programs = longer_history node.programs slot program }

-- the node's last program for the slot was published for it once more
abbrev pub IsPublishedAgain : (slot : ℕ) → (before after : SingleNodeValue) → Type 0
IsPublishedAgain slot before after =
    (program : AcceptedValue) → program_at before.programs slot ≡ Some program → after ≡ with_program before slot program

-- each port serves under those windows
abbrev pub AreUnder : WindowsValue → List PassValue → Type 0
AreUnder windows passes = (k : ℕ) (h : PassValue) → slice_get passes k ≡ Some h → h.windows ≡ windows

-- The bank of that number has the new journal, which begins with the memory of now. The old one came out, whose replay
-- on the base before is that memory. Nothing else changed.
pub record Rotates (number : ℕ) (fresh : JournalValue) (before after : SingleNodeValue) (old : JournalValue) : Type 0
  where
    pub bank : BankValue
    pub own : slice_get before.banks number ≡ Some bank
    pub rotated : after ≡ with_bank before number (after_rotation bank fresh)
    pub journal : old ≡ bank.journal
    pub replayed : memory_of bank ≡ replay (base_of bank) old.entries

-- The bank of that number has those bytes at that address, and the new journal, which begins with that memory. The old
-- one came out, whose replay on the base before is the memory before. Nothing else changed.
pub record SetsMemory (number address : ℕ) (bytes : List ℕ) (fresh : JournalValue) (before after : SingleNodeValue)
    (old : JournalValue) : Type 0 where
  pub bank : BankValue
  pub own : slice_get before.banks number ≡ Some bank
  pub set : after ≡ with_bank before number (after_setting bank address bytes fresh)
  pub journal : old ≡ bank.journal
  pub replayed : memory_of bank ≡ replay (base_of bank) old.entries

-- The bank of that number has an empty journal of that room, which begins with the memory of now. Nothing else changed.
pub record RotatesTo (number room : ℕ) (before after : SingleNodeValue) : Type 0 where
  pub old : JournalValue
  pub rotates : Rotates number (empty_journal room) before after old

-- The bank of that number has those bytes at that address, and an empty journal of that room, which begins with that
-- memory. Nothing else changed.
pub record SetsBytes (number address : ℕ) (bytes : List ℕ) (room : ℕ) (before after : SingleNodeValue) : Type 0 where
  pub old : JournalValue
  pub sets : SetsMemory number address bytes (empty_journal room) before after old
