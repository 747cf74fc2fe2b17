-- The slow program's memory, as the memory of the definition.
use Rattle.std.specs.Prelude.{ℕ, ℤ, List, slice_index_or, Option, None}
use Rattle.stepper.specs.declared.memory.Memory.{Memory}
use Rattle.machine.specs.declared.regions.Region.{Region}
use Rattle.machine.specs.Memory.{Header, byte_of, header as header_of, region_place_of}
use Rattle.machine.specs.Step.{region_bytes_at}

-- the header of some lent memory
abbrev pub lent_header : Memory → Header
lent_header memory = header_of memory.front.now memory.tail.now

-- a list of bytes, by place
abbrev pub bytes_in : List (Option ℕ) → ℕ → Option ℕ
bytes_in bytes place = slice_index_or bytes place None

-- the number of `bytes` bytes at an offset of some lent memory, if they are inside and all set
abbrev pub number_seen : Memory → Region → (bytes : ℕ) → (offset : ℤ) → Option ℕ
number_seen memory region bytes offset =
    region_bytes_at (lent_header memory) (bytes_in memory.stack.now) region bytes (region_place_of region bytes offset)

-- the byte at a place of a region of some lent memory, if there is one
abbrev pub byte_seen : Memory → Region → ℕ → Option ℕ
byte_seen memory region place = byte_of (lent_header memory) (bytes_in memory.stack.now) region place
