-- The node that the jobs run, with its ports.
use Rattle.std.specs.Prelude.{◌≡◌, ℕ, List, [], ◌∷◌, length, map, nat_le, ◌≤◌, true, slice_get}
use Rattle.std.specs.Prelude.{replicate, Bool, false, Option, None, Some}
use Rattle.std.specs.List.{list_all, range_with_len}
use base.Stored.{Gv, gnil}
use Rattle.bank.specs.Records.{BankValue, JournalValue, empty_journal}
use Rattle.bver.specs.Justified.{AcceptedValue}
use Rattle.machine.specs.Sizes.{Maps}
use Rattle.spw.specs.Cargo.{Cargo}
use Rattle.node_programs.specs.declared.publishes.Publish.{Publish}
use Rattle.node_programs.specs.Histories.{longer_history}
use Rattle.node_parts.specs.declared.config.NodeConfig.{NodeConfig}
use Rattle.node_parts.specs.declared.served.Served.{Served}
use Rattle.node_parts.specs.Nodes.{bank_of, first_pass, first_passes as all_first_passes, first_programs, fresh_banks}
use Rattle.node_parts.specs.Passes.{PassValue}
use Rattle.plain_cells.specs.Words.{zero_words}
use Rattle.single_node.specs.Nodes.{Rotates, SetsMemory, SingleNodeValue, room_in, single_node}
use Rattle.single_node.specs.Serving.{ServesPacketAt as ServesAlone}
use Rattle.job_nodes.specs.Feeds.{IsFed, IsNotFed}
pub use Rattle.job_config.specs.OwnNodes.{own_bank}
use Rattle.job_config.specs.declared.own_node.TheConstants.{NODE_ADDRESS}
use Rattle.job_parts.specs.declared.bad_lines.BadLine.{BadLine}

-- the parts of the node: its banks, the words of its cells, the programs that were published of it, and what each port
-- has of it. Then the bytes that each port holds of a packet that has not ended, and the reply to the last packet
pub record JobNodeValue : Type 0 where
  pub banks : List BankValue
  pub words : List (List ℕ)
  pub programs : List Publish
  pub passes : List PassValue
  pub held : List (List ℕ)
  pub reply : List ℕ

-- the node of these banks, words, programs and ports, which hold these bytes, with this reply
abbrev pub job_node : List BankValue → (words : List (List ℕ)) → List Publish → List PassValue → (held : List (List ℕ))
    → List ℕ → JobNodeValue
job_node banks words programs passes held reply =
    record { banks = banks; words = words; programs = programs; passes = passes; held = held; reply = reply }

-- how many entries the journal of each bank has room for
abbrev pub rooms_of : List BankValue → List ℕ
rooms_of banks = map (λ (b : BankValue). b.journal.room) banks

-- the journal of each bank has room for an entry or more, there is a port, and each port holds some bytes
pub record IsJobNode (s : JobNodeValue) : Type 0 where
  pub some : 1 ≤ length s.passes
  pub rooms : list_all (λ room. nat_le 1 room) (rooms_of s.banks) ≡ true
  pub ports : length s.held ≡ length s.passes

-- the configuration of the node with this many ports, and maps of these sizes
pub record IsConfig (ports : ℕ) (sizes : Maps) (config : NodeConfig) : Type 0 where
  pub address : config.address ≡ NODE_ADDRESS
  pub ports_are : config.ports ≡ ports
  pub banks : config.banks.now ≡ own_bank ∷ []
  pub sizes_are : config.sizes ≡ sizes

-- a fresh node of that configuration, with cells of 0: the program judges at each of its ports, which hold nothing
abbrev pub IsFreshOf : NodeConfig → AcceptedValue → JobNodeValue → Type 0
IsFreshOf config program node =
    node
    ≡ job_node (fresh_banks config) (zero_words program.sizes) (first_programs program)
    (all_first_passes config program gnil) (replicate config.ports []) []

-- what each of this many ports has of a fresh node at first, with seats at those cells
abbrev pub job_node_passes : (ports : ℕ) → AcceptedValue → (home : Gv) → List PassValue
job_node_passes ports program home = map (first_pass NODE_ADDRESS (own_bank ∷ []) program home) (range_with_len 0 ports)

-- the same of the node with this many ports that has logical address FE and that one bank
abbrev pub IsFreshJobNode : (ports : ℕ) → AcceptedValue → JobNodeValue → Type 0
IsFreshJobNode ports program node =
    node
    ≡ job_node (bank_of ports own_bank ∷ []) (zero_words program.sizes) (first_programs program)
    (job_node_passes ports program gnil) (replicate ports []) []

-- the node of one thread: what it holds of packets that have not ended, and the reply, are left out
abbrev pub alone : JobNodeValue → SingleNodeValue
alone s = single_node s.banks s.words s.programs s.passes

-- this became of the packet that came in at the port, by the last program that was published for its slot. The node has
-- the reply that is due, and no other port changed
pub record ServesOfPorts (served : Served) (port : ℕ) (packet : Cargo) (before after : JobNodeValue) : Type 0 where
  pub served_alone : ServesAlone served port packet (alone before) (alone after) after.reply
  pub held : after.held ≡ before.held

-- the node whose ports hold these bytes, and that is the same otherwise
abbrev pub with_held : JobNodeValue → List (List ℕ) → JobNodeValue
with_held node held = job_node node.banks node.words node.programs node.passes held node.reply

-- the node with one program more that was published for that slot, and that is the same otherwise
abbrev pub with_node_publish : JobNodeValue → (slot : ℕ) → AcceptedValue → JobNodeValue
with_node_publish node slot program =
    job_node node.banks node.words (longer_history node.programs slot program) node.passes node.held node.reply

-- a port holds the line's piece, and no packet came, or the packet of a port came
pub record FeedsLine (line : List ℕ) (received : Option (ℕ × Cargo)) (before after : JobNodeValue) : Type 0 where
  pub held : List (List ℕ)
  pub fed : IsFed line before.held held received
  pub same : after ≡ with_held before held

-- a port holds the line's piece, and no packet came
abbrev pub HoldsLine : (line : List ℕ) → (before after : JobNodeValue) → Type 0
HoldsLine line before after = FeedsLine line None before after

-- the line ended a packet of this port, and this became of it
pub record ServesLine (line : List ℕ) (port : ℕ) (served : Served) (before after : JobNodeValue) : Type 0 where
  pub packet : Cargo
  pub held : List (List ℕ)
  pub fed : IsFed line before.held held (Some (port, packet))
  pub step : ServesOfPorts served port packet (with_held before held) after

-- what came of a line: no packet yet, or what became of a packet of a port
abbrev pub TakesPacketLine : List ℕ → Option (ℕ × Served) → (before after : JobNodeValue) → Type 0
TakesPacketLine line None before after = HoldsLine line before after
TakesPacketLine line (Some received) before after = ServesLine line received.0 received.1 before after

-- nothing came of a line, which has this fault, except what its port may hold
pub record RefusesLine (line : List ℕ) (fault : BadLine) (before after : JobNodeValue) : Type 0 where
  pub held : List (List ℕ)
  pub unfed : IsNotFed line before.held held fault
  pub same : after ≡ with_held before held

-- the journal of a bank, if there is one
abbrev pub journal_of : Option BankValue → JournalValue
journal_of None = record { entries = []; room = 0 }
journal_of (Some b) = b.journal

-- the address of the first byte of a bank, if there is one
abbrev pub first_address_of : Option BankValue → ℕ
first_address_of None = 0
first_address_of (Some b) = b.first

-- the journal of a bank, if there is one, has room for no more entries
abbrev pub is_full : Option BankValue → Bool
is_full None = false
is_full (Some b) = nat_le b.journal.room (length b.journal.entries)

-- an empty journal with as much room as that of the bank of that number, if there is one
abbrev pub emptied : JobNodeValue → (number : ℕ) → JournalValue
emptied node number = empty_journal (room_in (slice_get node.banks number))

-- what ports hold, and the reply, are as before
pub record ArePortsKept (before after : JobNodeValue) : Type 0 where
  pub held : after.held ≡ before.held
  pub reply : after.reply ≡ before.reply

-- the journal of the bank of that number came out, whose replay is the memory of now. An empty one with as much room
-- began; nothing else changed
pub record HandsOut (number : ℕ) (before after : JobNodeValue) (old : JournalValue) : Type 0 where
  pub rotated : Rotates number (emptied before number) (alone before) (alone after) old
  pub kept : ArePortsKept before after

-- the journal of the bank of that number came out, whose replay is the memory before. An empty one with as much room
-- began after those bytes were put at that address; nothing else changed
pub record SetsNodeBytes (number address : ℕ) (bytes : List ℕ) (before after : JobNodeValue) (old : JournalValue) : Type 0
  where
    pub set : SetsMemory number address bytes (emptied before number) (alone before) (alone after) old
    pub kept : ArePortsKept before after
