-- The lines of a journal.
use Rattle.std.specs.Prelude.{ℕ, List, [], ◌∷◌, ◌++◌, codes, decimal, if◌then◌else◌, length}
use Rattle.std.specs.List.{flat_map}
use Rattle.hex.specs.Hex.{encode_upper}
use Rattle.bank.specs.Records.{EntryValue, is_whole}
use Rattle.rmap.specs.Codes.{status_code}
use Rattle.spw.specs.Cargo.{Cargo}
use Rattle.spw.specs.Line.{marker_word}

-- the words of a packet without its port, and the end of the line
abbrev pub portless_packet_line : Cargo → List ℕ
portless_packet_line packet = encode_upper packet.bytes ++ (codes " " ++ marker_word packet.end ++ 10 ∷ [])

-- the words before the packet of an entry: `journal PORT NUMBER GENERATION VERDICT STATUS `
unfoldable pub entry_words : (port number generation verdict status : ℕ) → List ℕ
entry_words port number generation verdict status =
    codes "journal "
    ++ (decimal port ++ (codes " "
    ++ (decimal number ++ (codes " "
    ++ (decimal generation ++ (codes " " ++ (decimal verdict ++ (codes " " ++ (decimal status ++ codes " ")))))))))

-- the line of an entry that is not as it was made
abbrev pub damaged_line : List ℕ
damaged_line = codes "journal damaged" ++ 10 ∷ []

-- the line of an entry that is, with its packet last
abbrev pub whole_line : EntryValue → List ℕ
whole_line entry =
    entry_words entry.port entry.number entry.generation entry.verdict (status_code entry.status)
    ++ portless_packet_line entry.packet

-- the line of an entry
abbrev pub entry_line : EntryValue → List ℕ
entry_line entry = if is_whole entry then whole_line entry else damaged_line

-- the line of how many entries there were
abbrev pub count_line : ℕ → List ℕ
count_line count = codes "journal " ++ decimal count ++ codes " entries" ++ 10 ∷ []

-- the lines of the entries, oldest first, and after them how many they are
abbrev pub journal_text : List EntryValue → List ℕ
journal_text entries = flat_map entry_line entries ++ count_line (length entries)
