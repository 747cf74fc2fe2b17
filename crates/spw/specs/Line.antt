-- Lines of a text, and packet lines: their words, what the words write, and which fault a line has.
use Rattle.std.specs.Prelude.{◌≡◌, ◌≢◌, ℕ, ◌+◌, ◌*◌, ◌%◌, ◌<◌, ◌≤◌, ◌==◌, ◌⊎◌, not, cond, List, [], ◌∷◌, ◌++◌, length}
use Rattle.std.specs.Prelude.{filter, codes, All, Option, Some, None, Result, Err, IfOk, IfErr, MatchResult}
use Rattle.std.specs.Char.{digit_value}
use Rattle.std.specs.List.{slice_split, flat_map, onto_first}
use Rattle.std.specs.Str.Parse.{AllDigits, IsNumeral, digits_value}
use Rattle.spw.specs.Cargo.{Cargo}
use Rattle.spw.specs.declared.lines.TheConstants.{PORTS}
use Rattle.spw.specs.declared.packets.TheConstants.{MAX_PACKET}
use Rattle.spw.specs.declared.faults.LineFault.{LineFault}
use Rattle.spw.specs.declared.faults.LineFault.TheVariants.{NoPort, BadHex, BadMarker, TooLong, Memory}
use Rattle.spw.specs.declared.packets.End.{End}
use Rattle.spw.specs.declared.packets.End.TheVariants.{Eop, Eep}

-- The lines of a text. A line feed ends a line, and the last may lack its own.
abbrev pub lines_of : List ℕ → List (List ℕ)
lines_of [] = []
lines_of (byte ∷ bytes) = cond (byte == 10) ([] ∷ lines_of bytes) (onto_first byte (lines_of bytes))

-- the words of a line: what is between its spaces (32), without the empty pieces
abbrev pub words_of : List ℕ → List (List ℕ)
words_of line = filter (λ word. not (length word == 0)) (slice_split (λ code. code == 32) line)

-- a port: decimal digits that write a number from 0 to 31
abbrev pub IsPort : List ℕ → Type 0
IsPort word = IsNumeral 10 word × (digits_value 10 word < PORTS)

-- the word writes this port
abbrev pub WritesPort : List ℕ → ℕ → Type 0
WritesPort word port = IsPort word × (port ≡ digits_value 10 word)

-- the fault of a word that writes no port
abbrev pub IsNoPort : List ℕ → LineFault → Type 0
IsNoPort word fault = (fault ≡ NoPort) × ¬ IsPort word

-- the word for an end marker
abbrev pub marker_word : End → List ℕ
marker_word Eop = codes "EOP"
marker_word Eep = codes "EEP"

-- the word for what a piece of a packet ends in: an end marker, or nothing yet
abbrev pub mark_word : Option End → List ℕ
mark_word (Some end) = marker_word end
mark_word None = codes "PART"

-- the fault of a word that is the word of no mark
abbrev pub IsNoMark : {M : Type 0} → (M → List ℕ) → List ℕ → LineFault → Type 0
IsNoMark {M} word text fault = (fault ≡ BadMarker) × ((mark : M) → text ≢ word mark)

-- an even number of hexadecimal digits, in either case
abbrev pub IsHex : List ℕ → Type 0
IsHex word = (length word % 2 ≡ 0) × AllDigits 16 word

-- the bytes that pairs of digits write, the high half of a byte first
abbrev pub bytes_written : List ℕ → List ℕ
bytes_written [] = []
bytes_written (digit ∷ []) = []
bytes_written (high ∷ low ∷ digits) = (digit_value high * 16 + digit_value low) ∷ bytes_written digits

-- the words write these bytes, one after the other
abbrev pub WriteBytes : List (List ℕ) → List ℕ → Type 0
WriteBytes words bytes = All IsHex words × (bytes ≡ flat_map bytes_written words)

-- the fault of what is not hexadecimal, or memory was refused
abbrev pub IsHexFault : (hexadecimal : Type 0) → LineFault → Type 0
IsHexFault hexadecimal fault = (fault ≡ Memory) ⊎ ((fault ≡ BadHex) × ¬ hexadecimal)

-- the bytes that some words write are too many for a packet
pub record AreTooMany (words : List (List ℕ)) : Type 0 where
  pub bytes : List ℕ
  pub written : WriteBytes words bytes
  pub long : MAX_PACKET < length bytes

-- why some words write the bytes of no packet: memory was refused, they are not hexadecimal, or there are too
-- many
abbrev pub IsBytesFault : List (List ℕ) → LineFault → Type 0
IsBytesFault words fault = IsHexFault (All IsHex words) fault ⊎ ((fault ≡ TooLong) × AreTooMany words)

-- the words are one of a port, which writes this number, others, and a last one
pub record AreParts (words : List (List ℕ)) (port : ℕ) (between : List (List ℕ)) (last : List ℕ) : Type 0 where
  pub first : List ℕ
  pub words_are : words ≡ first ∷ (between ++ last ∷ [])
  pub port_written : WritesPort first port

-- there is no first word that is a port, or nothing is after it
abbrev pub AreNoParts : List (List ℕ) → LineFault → Type 0
AreNoParts words fault =
    ((fault ≡ NoPort) × ((first : List ℕ) (rest : List (List ℕ)) → words ≡ first ∷ rest → ¬ IsPort first))
    ⊎ ((fault ≡ BadMarker) × ((first : List ℕ) × (words ≡ first ∷ []) × IsPort first))

-- The words of a line are a port, hexadecimal words and the word of a mark. They write this port, these bytes and this
-- mark.
pub record IsMarkedLine {M : Type 0} (word : M → List ℕ) (line : List ℕ) (port : ℕ) (bytes : List ℕ) (mark : M) : Type 0
  where
    pub first : List ℕ
    pub between : List (List ℕ)
    pub words : words_of line ≡ first ∷ (between ++ word mark ∷ [])
    pub is_port : IsPort first
    pub is_hex : All IsHex between
    pub port_written : port ≡ digits_value 10 first
    pub bytes_joined : bytes ≡ flat_map bytes_written between

-- the line is a packet line: its mark is an end marker, and it writes this port and this cargo
abbrev pub IsPacketLine : List ℕ → ℕ → Cargo → Type 0
IsPacketLine line port cargo = IsMarkedLine marker_word line port cargo.bytes cargo.end

-- the line writes a piece of a packet: this port, these bytes, and an end marker if the packet ends with it
abbrev pub IsPieceLine : List ℕ → ℕ → List ℕ → Option End → Type 0
IsPieceLine line port bytes mark = IsMarkedLine mark_word line port bytes mark

-- the first word is a port
pub record HasPort (line : List ℕ) : Type 0 where
  pub first : List ℕ
  pub rest : List (List ℕ)
  pub words : words_of line ≡ first ∷ rest
  pub is_port : IsPort first

-- the words after the first end in the word of a mark
pub record HasMark {M : Type 0} (word : M → List ℕ) (line : List ℕ) : Type 0 where
  pub first : List ℕ
  pub between : List (List ℕ)
  pub mark : M
  pub words : words_of line ≡ first ∷ (between ++ word mark ∷ [])

-- each word between the first and the last is hexadecimal
pub record HasHex (line : List ℕ) : Type 0 where
  pub first : List ℕ
  pub between : List (List ℕ)
  pub last : List ℕ
  pub words : words_of line ≡ first ∷ (between ++ last ∷ [])
  pub is_hex : All IsHex between

-- the line is of the form, for more bytes than a packet may have
pub record IsTooLong {M : Type 0} (word : M → List ℕ) (line : List ℕ) : Type 0 where
  pub port : ℕ
  pub bytes : List ℕ
  pub mark : M
  pub reading : IsMarkedLine word line port bytes mark
  pub long : MAX_PACKET < length bytes

-- the fault of a line: the first of no port, bad marker, bad digits and too long
abbrev pub HasFault : {M : Type 0} → (M → List ℕ) → List ℕ → LineFault → Type 0
HasFault word line NoPort = ¬ HasPort line
HasFault word line BadMarker = HasPort line × ¬ HasMark word line
HasFault word line BadHex = HasPort line × HasMark word line × ¬ HasHex line
HasFault word line TooLong = IsTooLong word line
HasFault word line Memory = ⊥

-- What reading a line answers, with its value seen as port, bytes and mark. If memory is not refused, it is these
-- exactly if the line is of the form with at most 4,200 bytes. Else it is exactly the line's fault.
pub record IsReading {M X : Type 0} (word : M → List ℕ) (line : List ℕ) (seen : X → ℕ × List ℕ × M)
    (answer : Result X LineFault) : Type 0 where
  pub ok : IfOk answer (λ x. IsMarkedLine word line (seen x).0 (seen x).1 (seen x).2 × (length (seen x).1 ≤ MAX_PACKET))
  pub err : IfErr answer (λ fault. (fault ≡ Memory) ⊎ HasFault word line fault)
  pub reads : (port : ℕ) (bytes : List ℕ) (mark : M) → IsMarkedLine word line port bytes mark → length bytes ≤ MAX_PACKET
      → MatchResult answer (λ x. seen x ≡ (port, bytes, mark)) (λ fault. fault ≡ Memory)
  pub refuses : (fault : LineFault) → HasFault word line fault → (answer ≡ Err fault) ⊎ (answer ≡ Err Memory)

-- no line writes two ports, two lists of bytes or two marks
abbrev pub IsUnambiguous : {M : Type 0} → (M → List ℕ) → Type 0
IsUnambiguous {M} word =
    (line : List ℕ) (port other : ℕ) (bytes another : List ℕ) (mark last : M) → IsMarkedLine word line port bytes mark
    → IsMarkedLine word line other another last
    → (port ≡ other) × (bytes ≡ another) × (mark ≡ last)
