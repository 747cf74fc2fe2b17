-- The command codes of commands that an initiator makes (ECSS-E-ST-50-52C, instruction field).
use Rattle.std.specs.Prelude.{ℕ, ◌+◌, ◌*◌, Bool, cond}

-- a bit of an instruction
abbrev pub instruction_bit_of : Bool → ℕ
instruction_bit_of set = cond set 1 0

-- the command code of a read: 001x, with increment
abbrev pub read_code : (increment : Bool) → ℕ
read_code increment = 2 + instruction_bit_of increment

-- the command code of a write: 1xxx, with verify, reply and increment
abbrev pub write_code : (verify reply increment : Bool) → ℕ
write_code verify reply increment = 8 + 4 * instruction_bit_of verify + 2 * instruction_bit_of reply + instruction_bit_of increment

-- the command code of a read-modify-write: 0111
abbrev pub rmw_code : ℕ
rmw_code = 7
