-- How many bytes a pool has over which a node serves without want of memory: the sum of its blocks, in units of 16 bytes. The
-- parts are those of the C library (docs/EMBEDDING.md, *No memory*); `link/least` measures them.
use Rattle.std.specs.Prelude.{◌≡◌, ◌+◌, ◌*◌, ◌/◌, ◌%◌, ℕ, min, List, [], ◌∷◌, length, Option, None, Some, slice_get}
use Rattle.bver.specs.Justified.{AcceptedValue}
use Rattle.machine.specs.Sizes.{Maps}
use Rattle.node_parts.specs.declared.config.BankConfig.{BankConfig}
use Rattle.job_config.specs.OwnNodes.{OwnNodeValue}
use Rattle.job_node_file.specs.Images.{AreLargest}
use Rattle.job_node_file.specs.declared.images.ImageSize.{ImageSize}

-- a block of this many bytes: one unit is before it
abbrev pub block : (bytes : ℕ) → ℕ
block bytes = (bytes + 15) / 16 + 1

-- the memory of a bank, once: blocks of 4,096 bytes, the rest, and their list, which grows
abbrev pub memory_units : (size : ℕ) → ℕ
memory_units size = 263 * (size / 4096) + block (size % 4096) + 13

-- the entries of a journal, each with a packet of 4,200 bytes
abbrev pub journal_units : (room : ℕ) → ℕ
journal_units room = block (80 * room) + 264 * room

-- a bank: its record, its memory twice, its journal, and what each port has of it
abbrev pub bank_units : (ports : ℕ) → BankConfig → ℕ
bank_units ports bank =
    8 + 2 * memory_units bank.size + journal_units bank.room + block (8 * ports) + block (16 * ports)

-- all banks
abbrev pub banks_units : (ports : ℕ) → List BankConfig → ℕ
banks_units ports [] = 0
banks_units ports (bank ∷ banks) = bank_units ports bank + banks_units ports banks

-- the ports: the context of each, what it stages, and its shares of the banks
abbrev pub ports_units : (ports banks : ℕ) → ℕ
ports_units ports banks = block (688 * ports) + block (24 * ports) + 1031 * ports + 2 * ports * banks

-- the cells of a map, if there is one, and their complements
abbrev pub map_units : Option ℕ → ℕ
map_units None = 0
map_units (Some cells) = 2 * block (8 * cells)

-- those of all maps, of which there are at most eight
abbrev pub cells_units : List ℕ → ℕ
cells_units maps =
    map_units (slice_get maps 0) + map_units (slice_get maps 1) + map_units (slice_get maps 2) + map_units (slice_get maps 3)
    + map_units (slice_get maps 4) + map_units (slice_get maps 5) + map_units (slice_get maps 6) + map_units (slice_get maps 7)

-- the maps: their two lists, and their cells
abbrev pub maps_units : Maps → ℕ
maps_units maps = 2 * block (24 * length maps.cells) + cells_units maps.cells

-- what a slot keeps of a program of this many slots: its image, its regions, its operations, its record and its loops
abbrev pub kept_units : (slots : ℕ) → ℕ
kept_units slots = block (32 * slots) + block (2 * slots) + block (16 * slots) + 15

-- a load: what the four slots keep, and a fifth program while it is verified
abbrev pub programs_units : ImageSize → ℕ
programs_units size =
    5 * kept_units size.slots + block size.slots + block (2 * size.slots) + block (1368 * size.entries)

-- the gaps that programs of several sizes leave if some are published. One is as long as the longest list of a program,
-- and there is some more for each of up to eight publishes
abbrev pub gaps_units : (publishes : ℕ) → ImageSize → ℕ
gaps_units publishes size = min publishes 1 * block (32 * size.slots) + min publishes 8 * block (4 * size.slots)

-- all of a node with images of at most that size, and one packet more than its journals have room for
abbrev pub node_units : OwnNodeValue → ImageSize → ℕ
node_units own size =
    546 + banks_units own.ports own.banks + ports_units own.ports (length own.banks) + maps_units own.sizes
    + programs_units size + gaps_units (length own.publishes) size

-- the bytes of the pool of a node whose slots have at first that program
pub record IsPool (own : OwnNodeValue) (program : AcceptedValue) (bytes : ℕ) : Type 0 where
  pub size : ImageSize
  pub largest : AreLargest program.program own.publishes size
  pub is : bytes ≡ 16 * node_units own size
