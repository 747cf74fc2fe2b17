-- What the job `packet` reads and prints: the lines of the packets that its words order.
use Rattle.std.specs.Prelude.{◌≡◌, ◌+◌, ◌&&◌, ◌⊎◌, nat_lt, nat_le, ℕ, Bool, if◌then◌else◌, List, [], ◌∷◌, ◌++◌}
use Rattle.std.specs.Prelude.{length, Option, Some, None, codes, string_bytes}
use Rattle.std.specs.Io.KnownBytes.{Appends}
use Rattle.spw.specs.declared.packets.TheConstants.{MAX_PACKET}
use Rattle.rmap.specs.Reply.{with_crc}
use Rattle.rmap.specs.declared.boot.TheConstants.{STAGING_SIZE}
use Rattle.initiator.specs.declared.codes.TheConstants.{RMW_CODE}
use Rattle.initiator.specs.declared.requests.Request.{Request}
use Rattle.initiator.specs.declared.write.TheConstants.{DATA_OVERHEAD}
use Rattle.job_parts.specs.Files.{ReadsFile}
use Rattle.job_parts.specs.Reading.{IsFileUnread}
use Rattle.job_parts.specs.declared.faults.Fault.{Fault}
use Rattle.job_parts.specs.declared.faults.Fault.TheVariants.{NoMemory}
use Rattle.job_parts.specs.declared.status.ExitStatus.{ExitStatus}
use Rattle.job_parts.specs.declared.status.ExitStatus.TheVariants.{Done, Failed, Misused}
use Rattle.job_packets.specs.Loads.{with_loads}
use Rattle.job_packets.specs.Requests.{has_reply_address, request_line_of}
use Rattle.job_packets.specs.declared.orders.Order.{Order}
use Rattle.job_packets.specs.declared.orders.Order.TheVariants.{Read, Write, Rmw, Load}
use Rattle.job_packets.specs.declared.orders.DataSource.TheVariants.{Bytes, File}
use Rattle.job_packets.specs.declared.packet.PacketWords.{PacketWords}
use Rattle.job_packets.specs.declared.packet_options.HeaderWords.{HeaderWords}

-- a packet with this many bytes of data is not too long: the header with its reply address, the data and their CRC
abbrev pub is_short : HeaderWords → (count : ℕ) → Bool
is_short h count = nat_le (DATA_OVERHEAD + length h.reply_address.items + count) MAX_PACKET

-- the one command of a packet, with the transaction identifier and the extended address of its words
abbrev pub own_request : HeaderWords → (code address count : ℕ) → Request
own_request h code address count = record {
  code = code;
  transaction = h.transaction;
  extended = h.extended;
  address = address;
  count = count;
}

-- there are such packets: the codes and the lengths fit their fields, no packet is longer than 4,200 bytes, and an
-- image fits the staging
abbrev pub packets_fit : HeaderWords → Order → (content : List ℕ) → Bool
packets_fit h (Read code address count) content = nat_lt code 16 && nat_lt count 16777216
packets_fit h (Write code address source) content = nat_lt code 16 && is_short h (length content)
packets_fit h (Rmw address bytes) content = is_short h (length content)
packets_fit h (Load image slots) content = nat_le (length content) STAGING_SIZE

-- the lines of the packets after others, with the data or the image that was given
abbrev pub with_text : (front : List ℕ) → HeaderWords → Order → (content : List ℕ) → List ℕ
with_text front h (Read code address count) content = front ++ request_line_of h (own_request h code address count) []
with_text front h (Write code address source) content =
    front ++ request_line_of h (own_request h code address (length content)) (with_crc content)
with_text front h (Rmw address bytes) content =
    front ++ request_line_of h (own_request h RMW_CODE address (length content)) (with_crc content)
with_text front h (Load image slots) content = with_loads front h h.transaction slots.items content

-- the lines, if there are such packets
abbrev pub made_text : PacketWords → (content : List ℕ) → Option (List ℕ)
made_text words content =
    if has_reply_address words.header && packets_fit words.header words.order content
    then Some (with_text [] words.header words.order content)
    else None

-- the file that has the data or the image
abbrev pub file_of : Order → Option (List ℕ)
file_of (Read code address count) = None
file_of (Write code address (Bytes bytes)) = None
file_of (Write code address (File name)) = Some (string_bytes name)
file_of (Rmw address bytes) = None
file_of (Load image slots) = Some (string_bytes image)

-- the data that the words have
abbrev pub own_data : Order → List ℕ
own_data (Read code address count) = []
own_data (Write code address (Bytes bytes)) = bytes.items
own_data (Write code address (File name)) = []
own_data (Rmw address bytes) = bytes.items
own_data (Load image slots) = []

module _ {S : Type 0} (reads : ReadsFile S) where
  -- the data are those of the file, or, if there is none, those that the words have
  abbrev pub IsContentOf : Option (List ℕ) → (own : List ℕ) → (before : S) → (content : List ℕ) → (after : S) → Type 0
  IsContentOf None own before content after = (content ≡ own) × (after ≡ before)
  IsContentOf (Some name) own before content after = reads before name (Some content) after

  -- the data or the image of the order
  abbrev pub IsContent : Order → (before : S) → (content : List ℕ) → (after : S) → Type 0
  IsContent order before content after = IsContentOf (file_of order) (own_data order) before content after

  -- the lines of the packets, or none if there are no such packets, with the data or the image that was given
  pub record IsMade (words : PacketWords) (before : S) (made : Option (List ℕ)) (after : S) : Type 0 where
    pub content : List ℕ
    pub given : IsContent words.order before content after
    pub text : made ≡ made_text words content

  -- the lines of the packets that the words order were printed
  pub record MakesPackets (words : PacketWords) (before after : S) (old new : Option (List ℕ)) : Type 0 where
    pub text : List ℕ
    pub made : IsMade words before (Some text) after
    pub printed : Appends old new text

  -- there are no such packets, and nothing was printed
  pub record MakesNone (words : PacketWords) (before after : S) (old new : Option (List ℕ)) : Type 0 where
    pub unmade : IsMade words before None after
    pub silent : new ≡ old

  -- the file of the data or the image cannot be read
  pub record ContentUnread (words : PacketWords) (before after : S) (fault : Fault) : Type 0 where
    pub name : List ℕ
    pub named : file_of words.order ≡ Some name
    pub unread : IsFileUnread reads before name after fault

  -- the data or the image was given, but memory was refused after that
  pub record IsPacketUnmade (words : PacketWords) (before after : S) (fault : Fault) : Type 0 where
    pub content : List ℕ
    pub given : IsContent words.order before content after
    pub is_fault : fault ≡ NoMemory

  -- why no packets were made
  abbrev pub IsNotMade : PacketWords → (before after : S) → Fault → Type 0
  IsNotMade words before after fault = ContentUnread words before after fault ⊎ IsPacketUnmade words before after fault

  -- what `packet` reads and prints if no fault ends it, by its exit status
  abbrev pub MakesFile : PacketWords → (before after : S) → (old new : Option (List ℕ)) → ExitStatus → Type 0
  MakesFile words before after old new Done = MakesPackets words before after old new
  MakesFile words before after old new Failed = ⊥
  MakesFile words before after old new Misused = MakesNone words before after old new
