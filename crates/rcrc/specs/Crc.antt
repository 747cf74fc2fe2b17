-- The 8-bit CRC of RMAP, as the standard's register computes it.
use Rattle.std.specs.Prelude.{ℕ, zero, suc, ◌/◌, ◌%◌, ◌==◌, if◌then◌else◌, List, bit_xor, fold}

-- One step of the register: a right shift, and 0xE0 if the bit shifted out was 1 (ECSS-E-ST-50-52C, 8-bit CRC).
abbrev pub shift : ℕ → ℕ
shift register = if register % 2 == 1 then bit_xor (register / 2) 0xE0 else register / 2

-- that many steps of the register
unfoldable pub shifts : ℕ → ℕ → ℕ
shifts zero register = register
shifts (suc steps) register = shifts steps (shift register)

-- the register after one more byte: the byte is added, and eight steps follow
-- (ECSS-E-ST-50-52C, 8-bit CRC)
abbrev pub next_crc : ℕ → ℕ → ℕ
next_crc register byte = shifts 8 (bit_xor register byte)

-- the register after some bytes, from a given register on (ECSS-E-ST-50-52C, 8-bit CRC)
abbrev pub crc_from : ℕ → List ℕ → ℕ
crc_from crc bytes = fold next_crc crc bytes

-- the CRC of some bytes: the register starts at 0 (ECSS-E-ST-50-52C, 8-bit CRC)
abbrev pub crc_of : List ℕ → ℕ
crc_of bytes = crc_from 0 bytes
