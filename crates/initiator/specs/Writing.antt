-- Commands of given fields (ECSS-E-ST-50-52C, write command format, read command format, read-modify-write command
-- format).
use Rattle.std.specs.Prelude.{◌≡◌, ◌≤◌, ◌<◌, ◌^◌, ℕ, List, [], ◌∷◌, ◌++◌, length}
use Rattle.byteorder.specs.Endian.{big_bytes}
use Rattle.rcrc.specs.Crc.{crc_of}
use Rattle.spw.specs.declared.packets.End.TheVariants.{Eop}
use Rattle.initiator.specs.declared.write.CommandFields.{CommandFields}
use Rattle.rmap.specs.Instruction.{packet_type, reply_address_length}
use Rattle.rmap.specs.Command.{CommandValue, address_of, extended_of, initiator_of, instruction_of, key_of, length_of}
use Rattle.rmap.specs.Command.{target_of, transaction_of}

-- the first four bytes
abbrev pub front_with : CommandFields → List ℕ
front_with f = f.target ∷ 1 ∷ f.instruction.0 ∷ f.key ∷ []

-- the fields between the reply address and the header's CRC
abbrev pub tail_with : CommandFields → List ℕ
tail_with f =
    f.initiator ∷ [] ++ big_bytes 2 f.transaction ++ f.extended ∷ [] ++ big_bytes 4 f.address ++ big_bytes 3 f.length

-- the header without its CRC
abbrev pub header_with : CommandFields → List ℕ
header_with f = front_with f ++ f.reply_address.now ++ tail_with f

-- the command of these fields with that body
abbrev pub command_with : CommandFields → List ℕ → CommandValue
command_with f body = record {
  front = front_with f;
  reply_address = f.reply_address.now;
  tail = tail_with f ++ crc_of (header_with f) ∷ [];
  body = body;
  end = Eop;
}

-- The fields are those of a command. It is no reply, the length fits its field, and the reply address is as long as
-- the instruction says.
pub record AreFields (f : CommandFields) : Type 0 where
  pub no_reply : 1 ≤ packet_type f.instruction.0
  pub short : f.length < 2 ^ 24
  pub address : length f.reply_address.now ≡ reply_address_length f.instruction.0

-- the command has these fields, and that body
pub record HasFields (f : CommandFields) (body : List ℕ) (c : CommandValue) : Type 0 where
  pub target : target_of c ≡ f.target
  pub instruction : instruction_of c ≡ f.instruction.0
  pub key : key_of c ≡ f.key
  pub reply_address : c.reply_address ≡ f.reply_address.now
  pub initiator : initiator_of c ≡ f.initiator
  pub transaction : transaction_of c ≡ f.transaction
  pub extended : extended_of c ≡ f.extended
  pub address : address_of c ≡ f.address
  pub data_length : length_of c ≡ f.length
  pub following : c.body ≡ body

-- the numbers fit the fields of a command
pub record Fit (f : CommandFields) : Type 0 where
  pub transaction : f.transaction < 2 ^ 16
  pub address : f.address < 2 ^ 32
