-- The instruction byte (ECSS-E-ST-50-52C, instruction field).
use Rattle.std.specs.Prelude.{ℕ, ◌*◌, ◌/◌, ◌%◌, Bool, true, false, ◌==◌, ◌||◌, nat_le, if◌then◌else◌}
use Rattle.std.specs.Int.{bit_at}
use Rattle.rmap.specs.declared.kind.Kind.{Kind}
use Rattle.rmap.specs.declared.kind.Kind.TheVariants.{Read, Write, Rmw, Unused}

-- bits 7 and 6, the packet type: 0 is a reply, 1 a command, 2 and 3 are reserved
abbrev pub packet_type : ℕ → ℕ
packet_type instruction = instruction / 64

-- bits 5 to 2, the command code
abbrev pub command_code : ℕ → ℕ
command_code instruction = instruction / 4 % 16

-- bit 5, the write bit
abbrev pub has_write_bit : ℕ → Bool
has_write_bit instruction = bit_at instruction 5 == 1

-- bit 4, the verify data before write bit
abbrev pub has_verify_bit : ℕ → Bool
has_verify_bit instruction = bit_at instruction 4 == 1

-- bit 3, the reply bit
abbrev pub has_reply_bit : ℕ → Bool
has_reply_bit instruction = bit_at instruction 3 == 1

-- bit 2, the increment address bit
abbrev pub has_increment_bit : ℕ → Bool
has_increment_bit instruction = bit_at instruction 2 == 1

-- bits 1 and 0, the reply address length, in words of four bytes: here the bytes, 0, 4, 8 or 12
abbrev pub reply_address_length : ℕ → ℕ
reply_address_length instruction = 4 * (instruction % 4)

-- codes 0010 and 0011 read, 0111 is a read-modify-write, 1000 to 1111 write, and the others are unused
abbrev pub kind_of_code : ℕ → Kind
kind_of_code code =
    if code == 2 || code == 3 then Read
    else if code == 7 then Rmw
    else if nat_le 8 code then Write
    else Unused

-- what an instruction asks for; any packet type except that of a command is unused
abbrev pub kind_of : ℕ → Kind
kind_of instruction =
    if packet_type instruction == 1 then kind_of_code (command_code instruction) else Unused

-- whether a kind is one that the standard uses
abbrev pub is_used : Kind → Bool
is_used Read = true
is_used Write = true
is_used Rmw = true
is_used Unused = false

-- whether data and a data CRC follow the header
abbrev pub carries_data : Kind → Bool
carries_data Write = true
carries_data Rmw = true
carries_data Read = false
carries_data Unused = false
