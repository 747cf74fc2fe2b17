-- What a packet might change, whatever else is wrong with it (ECSS-E-ST-50-52C, instruction field, extended address field and
-- address field).
use Rattle.std.specs.Prelude.{ℕ, ◌+◌, ◌-◌, ◌==◌, ◌&&◌, ◌||◌, nat_le, nat_lt, Bool, true, false, if◌then◌else◌, List, [], ◌∷◌}
use Rattle.std.specs.Prelude.{Option, Some, None, length, take, drop, slice_index}
use Rattle.byteorder.specs.Endian.{big_number}
use Rattle.rmap.specs.Instruction.{command_code, has_increment_bit, reply_address_length}
use Rattle.rmap.specs.declared.boot.TheConstants.{BOOT_WINDOW}
use Rattle.job_suite.specs.declared.ranges.MemoryRange.{MemoryRange}
use Rattle.job_suite.specs.declared.reach.Reach.{Reach}

-- a target might change memory by such an instruction: it has the write bit, or the code of read-modify-writes
abbrev pub may_change : ℕ → Bool
may_change instruction = nat_le 8 (command_code instruction) || command_code instruction == 7

-- the last address of the bytes from that address on; without increment, and of no bytes, it is the address
abbrev pub last_reached_of : (instruction address count : ℕ) → ℕ
last_reached_of instruction address count =
    if has_increment_bit instruction && nat_lt 0 count then address + count - 1 else address

-- the memory that a header with this instruction and these last twelve bytes might change
abbrev pub reach_in : (instruction : ℕ) → (tail : List ℕ) → Reach
reach_in instruction tail = record {
  extended = slice_index tail 3;
  low = big_number 4 (drop 4 tail);
  high = last_reached_of instruction (big_number 4 (drop 4 tail)) (big_number 3 (drop 8 tail));
}

-- the memory that a packet of these bytes might change; none if it has no whole header, or no code that changes memory
abbrev pub reach_of : List ℕ → Option Reach
reach_of bytes =
    if nat_lt (length bytes) 4 then None
    else if nat_lt (length bytes) (16 + reply_address_length (slice_index bytes 2)) then None
    else if may_change (slice_index bytes 2)
    then Some (reach_in (slice_index bytes 2) (take 12 (drop (4 + reply_address_length (slice_index bytes 2)) bytes)))
    else None

-- the range has all that is reached
abbrev pub is_in : MemoryRange → Reach → Bool
is_in range reach =
    range.extended == reach.extended && (nat_le range.low reach.low && nat_le reach.high range.high)

-- one of the ranges has all that is reached
abbrev pub are_reached_within : List MemoryRange → Reach → Bool
are_reached_within [] reach = false
are_reached_within (range ∷ ranges) reach = if is_in range reach then true else are_reached_within ranges reach

-- what is reached may change: it is in the boot window, if that may be, or in one of the ranges
abbrev pub may_reach : List MemoryRange → (loads : Bool) → Option Reach → Bool
may_reach ranges loads None = true
may_reach ranges loads (Some reach) =
    if reach.extended == BOOT_WINDOW && loads then true else are_reached_within ranges reach

-- a packet of these bytes may be printed
abbrev pub is_printed : List MemoryRange → (loads : Bool) → List ℕ → Bool
is_printed ranges loads bytes = may_reach ranges loads (reach_of bytes)
