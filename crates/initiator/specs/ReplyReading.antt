-- Replies as they are read, from the initiator logical address (ECSS-E-ST-50-52C, write reply format, read reply
-- format and read-modify-write reply format). Fields of several bytes have the most significant byte first.
use Rattle.std.specs.Prelude.{◌≡◌, ℕ, ◌+◌, ◌-◌, Bool, true, ◌==◌, ◌&&◌, not, nat_lt, if◌then◌else◌, List, [], ◌∷◌}
use Rattle.std.specs.Prelude.{◌++◌, length, take, drop, slice_index, Result, Ok, Err}
use Rattle.byteorder.specs.Endian.{big_number}
use Rattle.rcrc.specs.Crc.{crc_of}
use Rattle.initiator.specs.declared.no_reply.NoReply.{NoReply}
use Rattle.initiator.specs.declared.no_reply.NoReply.TheVariants.{Short, Protocol, Command, HeaderCrc, Length, DataCrc}
use Rattle.rmap.specs.declared.status.Status.{Status}
use Rattle.rmap.specs.Codes.{status_code}
use Rattle.rmap.specs.Instruction.{packet_type, has_write_bit}
use Rattle.rmap.specs.Command.{CommandValue, target_of, instruction_of, initiator_of, transaction_of, writes}
use Rattle.rmap.specs.Reply.{reply_body, reply_header, reply_instruction, with_crc}

-- the parts of a reply in the order of its bytes, without its path
pub record ReplyValue : Type 0 where
  -- Initiator logical address, protocol identifier, instruction, status, target logical address, transaction
  -- identifier, header CRC. In read form a reserved byte and the data length are before the CRC.
  pub header : List ℕ
  -- the data; none in write form
  pub data_field : List ℕ

-- the initiator logical address field, byte 0
abbrev pub reply_initiator : ReplyValue → ℕ
reply_initiator r = slice_index r.header 0

-- the protocol identifier field, byte 1
abbrev pub reply_protocol : ReplyValue → ℕ
reply_protocol r = slice_index r.header 1

-- the instruction field, byte 2
abbrev pub reply_instruction_of : ReplyValue → ℕ
reply_instruction_of r = slice_index r.header 2

-- the status field, byte 3
abbrev pub reply_status : ReplyValue → ℕ
reply_status r = slice_index r.header 3

-- the target logical address field, byte 4
abbrev pub reply_target : ReplyValue → ℕ
reply_target r = slice_index r.header 4

-- the transaction identifier field, two bytes
abbrev pub reply_transaction : ReplyValue → ℕ
reply_transaction r = big_number 2 (drop 5 r.header)

-- whether the reply has the form of a write reply: no data, and no length of any
abbrev pub has_write_form : ReplyValue → Bool
has_write_form r = has_write_bit (reply_instruction_of r)

-- how many bytes a header has, with its CRC: 8 in write form, 12 in read form
abbrev pub form_length : (writes : Bool) → ℕ
form_length writes = if writes then 8 else 12

-- how many bytes of data a header announces: in read form its data length field
abbrev pub announced_length : (writes : Bool) → (header : List ℕ) → ℕ
announced_length writes header = if writes then 0 else big_number 3 (drop 8 header)

-- the data and their CRC in read form, nothing in write form
abbrev pub checked_data : (writes : Bool) → List ℕ → List ℕ
checked_data writes bytes = if writes then [] else bytes ++ crc_of bytes ∷ []

-- whether the last of `count` bytes is the CRC of those before it
abbrev pub has_right_crc : (count : ℕ) → List ℕ → Bool
has_right_crc count bytes = slice_index bytes (count - 1) == crc_of (take (count - 1) bytes)

-- the last of some bytes
abbrev pub last_of : List ℕ → ℕ
last_of bytes = slice_index bytes (length bytes - 1)

-- the CRC of the bytes before the last
abbrev pub crc_before_last : List ℕ → ℕ
crc_before_last bytes = crc_of (take (length bytes - 1) bytes)

-- The bytes are the reply: protocol identifier 1, packet type 00, and a header whose last byte is the CRC of those
-- before it. In read form as many bytes of data as the header announces come after it, with their CRC. In write form
-- nothing comes after it.
pub record IsReply (bytes : List ℕ) (r : ReplyValue) : Type 0 where
  pub header : length r.header ≡ form_length (has_write_form r)
  pub protocol : reply_protocol r ≡ 1
  pub kind : packet_type (reply_instruction_of r) ≡ 0
  pub crc : has_right_crc (length r.header) r.header ≡ true
  pub data_length : length r.data_field ≡ announced_length (has_write_form r) r.header
  pub parts : bytes ≡ r.header ++ checked_data (has_write_form r) r.data_field

-- ---- the first reason why bytes are no reply, or the reply

-- how many bytes should follow the header: none in write form, else the data and their CRC
abbrev pub body_length : (writes : Bool) → (header : List ℕ) → ℕ
body_length writes header = if writes then 0 else announced_length writes header + 1

-- the number of bytes that follow the header is not the right one
unfoldable pub wrong_length : (writes : Bool) → (header body : List ℕ) → NoReply
wrong_length writes header body = Length (length body) (body_length writes header)

-- the last of some bytes is not the CRC of those before it: of a header
unfoldable pub wrong_header : List ℕ → NoReply
wrong_header header = HeaderCrc (last_of header) (crc_before_last header)

-- and of data
unfoldable pub wrong_data : List ℕ → NoReply
wrong_data body = DataCrc (last_of body) (crc_before_last body)

-- what follows the header
abbrev pub body_reading : (writes : Bool) → (header body : List ℕ) → Result ReplyValue NoReply
body_reading writes header body =
    if not (length body == body_length writes header) then Err (wrong_length writes header body)
    else if not writes && not (has_right_crc (length body) body) then Err (wrong_data body)
    else Ok (record { header = header; data_field = take (announced_length writes header) body })

-- a header of `count` bytes, and what follows it
abbrev pub form_reading : (writes : Bool) → (count : ℕ) → List ℕ → Result ReplyValue NoReply
form_reading writes count bytes =
    if nat_lt (length bytes) count then Err Short
    else if not (has_right_crc count bytes)
    then Err (wrong_header (take count bytes))
    else body_reading writes (take count bytes) (drop count bytes)

-- the reason of the first test that fails, with what was found, or the reply
abbrev pub reply_reading : List ℕ → Result ReplyValue NoReply
reply_reading bytes =
    if nat_lt (length bytes) 3 then Err Short
    else if not (slice_index bytes 1 == 1) then Err (Protocol (slice_index bytes 1))
    else if not (packet_type (slice_index bytes 2) == 0) then Err (Command (record { 0 = slice_index bytes 2 }))
    else form_reading (has_write_bit (slice_index bytes 2)) (form_length (has_write_bit (slice_index bytes 2))) bytes

-- if the bytes are a reply, that reply is given
abbrev pub GivesAnyReplyOf : List ℕ → Result ReplyValue NoReply → Type 0
GivesAnyReplyOf bytes given = (r : ReplyValue) → IsReply bytes r → given ≡ Ok r

-- ---- what is written is read

-- what follows the path of a reply
abbrev pub after_reply_path : CommandValue → Status → List ℕ → List ℕ
after_reply_path c status bytes = with_crc (reply_header c status bytes) ++ reply_body c bytes

-- the reply to a command with that status and those bytes as its data
abbrev pub reply_to : CommandValue → Status → List ℕ → ReplyValue
reply_to c status bytes = record {
  header = with_crc (reply_header c status bytes);
  data_field = if writes c then [] else bytes;
}

-- the reply has the fields of the command, the status and the data
pub record Answers (c : CommandValue) (status : Status) (bytes : List ℕ) (r : ReplyValue) : Type 0 where
  pub initiator : reply_initiator r ≡ initiator_of c
  pub instruction : reply_instruction_of r ≡ reply_instruction (instruction_of c)
  pub status_field : reply_status r ≡ status_code status
  pub target : reply_target r ≡ target_of c
  pub transaction : reply_transaction r ≡ transaction_of c
  pub data_field : r.data_field ≡ (if writes c then [] else bytes)
