-- The commands that are requested of the job `packet`, each as its packet line.
use Rattle.std.specs.Prelude.{◌+◌, ◌*◌, ◌/◌, ◌%◌, ◌==◌, ◌&&◌, nat_le, ℕ, Bool, List, [], ◌∷◌, ◌++◌, length, codes, decimal}
use Rattle.spw.specs.Written.{packet_line}
use Rattle.spw.specs.declared.packets.End.TheVariants.{Eop}
use Rattle.rmap.specs.Command.{bytes_of}
use Rattle.initiator.specs.Writing.{command_with}
use Rattle.initiator.specs.declared.requests.Request.{Request}
use Rattle.initiator.specs.declared.write.CommandFields.{CommandFields}
use Rattle.job_packets.specs.declared.packet_options.HeaderWords.{HeaderWords}

-- the instruction of a command: packet type 01, the command code, and as many words of four bytes as the reply address
-- has (ECSS-E-ST-50-52C, instruction field)
abbrev pub instruction_with : HeaderWords → Request → ℕ
instruction_with h r = 64 + 4 * r.code + length h.reply_address.items / 4

-- the fields of the command that is requested
abbrev pub fields_with : HeaderWords → Request → CommandFields
fields_with h r = record {
  target = h.target;
  instruction = record { 0 = instruction_with h r };
  key = h.key;
  reply_address = record { ref_ptr = (0, 0); now = h.reply_address.items };
  initiator = h.initiator;
  transaction = r.transaction;
  extended = r.extended;
  address = r.address;
  length = r.count;
}

-- a port, digits and the marker `EOP` in a line, with its line feed (10)
abbrev pub marked_line : (port : ℕ) → (digits : List ℕ) → List ℕ
marked_line port digits = decimal port ++ codes " " ++ digits ++ codes " EOP" ++ 10 ∷ []

-- the packet line of the command that is requested, with that body, and its line feed (10)
unfoldable pub request_line_of : HeaderWords → Request → (body : List ℕ) → List ℕ
request_line_of h r body =
    packet_line h.port (record { bytes = bytes_of (command_with (fields_with h r) body); end = Eop }) ++ 10 ∷ []

-- the reply address has 0, 4, 8 or 12 bytes
abbrev pub has_reply_address : HeaderWords → Bool
has_reply_address h = length h.reply_address.items % 4 == 0 && nat_le (length h.reply_address.items) 12
