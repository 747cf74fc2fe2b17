-- The bytes of a reply (ECSS-E-ST-50-52C, write reply format, read reply format and
-- read-modify-write reply format).
use Rattle.std.specs.Prelude.{◌≡◌, ℕ, ◌%◌, false, ◌==◌, if◌then◌else◌, List, [], ◌∷◌, ◌++◌, length, take}
use Rattle.byteorder.specs.Endian.{big_bytes}
use Rattle.rcrc.specs.Crc.{crc_of}
use Rattle.rcrc.specs.Polynomial.{IsRemainder}
use Rattle.rmap.specs.declared.status.Status.{Status}
use Rattle.rmap.specs.Codes.{status_code}
use Rattle.rmap.specs.Command.{CommandValue, target_of, instruction_of, initiator_of, transaction_of, writes}
use Rattle.rmap.specs.Command.{wants_reply}

-- some bytes without the zeros that they begin with
abbrev pub without_leading_zeros : List ℕ → List ℕ
without_leading_zeros [] = []
without_leading_zeros (byte ∷ rest) = if byte == 0 then without_leading_zeros rest else byte ∷ rest

-- a path, or if it is empty the first byte of its address, a zero
abbrev pub path_or_zero : List ℕ → List ℕ → List ℕ
path_or_zero [] address = take 1 address
path_or_zero (byte ∷ rest) address = byte ∷ rest

-- the reply path: the reply address without its leading zeros, or one zero if nothing else is in it
-- (ECSS-E-ST-50-52C, reply address field)
abbrev pub reply_path_of : List ℕ → List ℕ
reply_path_of address = path_or_zero (without_leading_zeros address) address

-- the instruction of a reply: packet type 00, and the other bits of the command's (ECSS-E-ST-50-52C,
-- instruction field)
abbrev pub reply_instruction : ℕ → ℕ
reply_instruction instruction = instruction % 64

-- what a read reply has beside a write reply: a zero byte and the length of its data
abbrev pub read_fields : CommandValue → List ℕ → List ℕ
read_fields c bytes = if writes c then [] else 0 ∷ big_bytes 3 (length bytes)

-- the header of a reply without its CRC, from the initiator logical address on
abbrev pub reply_header : CommandValue → Status → List ℕ → List ℕ
reply_header c status bytes =
    initiator_of c ∷ 1 ∷ reply_instruction (instruction_of c) ∷ status_code status ∷ target_of c ∷ []
    ++ big_bytes 2 (transaction_of c) ++ read_fields c bytes

-- some bytes, and after them their CRC
abbrev pub with_crc : List ℕ → List ℕ
with_crc bytes = bytes ++ crc_of bytes ∷ []

-- what follows the header: data and data CRC in read form, nothing in write form
abbrev pub reply_body : CommandValue → List ℕ → List ℕ
reply_body c bytes = if writes c then [] else with_crc bytes

-- the reply, or nothing if the command wants none
abbrev pub reply_of : CommandValue → Status → List ℕ → List ℕ
reply_of c status bytes =
    if wants_reply c then reply_path_of c.reply_address ++ with_crc (reply_header c status bytes) ++ reply_body c bytes
    else []

-- the CRC of the bytes is their remainder
abbrev pub HasRemainder : List ℕ → Type 0
HasRemainder bytes = IsRemainder bytes (crc_of bytes)

-- The CRC of a reply's header is the remainder of the header. In read form the CRC of the data is the remainder of
-- the data (ECSS-E-ST-50-52C, header CRC field and data CRC field).
pub record HasRemainders (c : CommandValue) (bytes reply : List ℕ) : Type 0 where
  pub header : List ℕ
  pub header_crc : ℕ
  pub data_crc : ℕ
  pub layout : reply ≡ reply_path_of c.reply_address ++ (header ++ header_crc ∷ [])
      ++ (if writes c then [] else bytes ++ data_crc ∷ [])
  pub header_remainder : IsRemainder header header_crc
  pub data_remainder : writes c ≡ false → IsRemainder bytes data_crc
