-- The entries that are handed out at once: each before the answer to its packet.
use Rattle.std.specs.Prelude.{◌≡◌, ◌==◌, ℕ, zero, suc, Bool, true, false, if◌then◌else◌, List, [], ◌∷◌, ◌++◌, length, codes, decimal, Option, slice_get}
use Rattle.std.specs.List.{flat_map, range_with_len}
use Rattle.hex.specs.Hex.{encode_upper}
use Rattle.bank.specs.Records.{BankValue, EntryValue, is_whole}
use Rattle.rmap.specs.Codes.{status_code}
use Rattle.job_nodes.specs.JobNode.{JobNodeValue, journal_of}
use Rattle.job_nodes.specs.Lines.{served_line}
use Rattle.job_nodes.specs.LiveNodes.{LiveNodeValue}
use Rattle.job_nodes.specs.declared.live_node.LineResult.{LineResult}
use Rattle.job_live.specs.Journals.{TurnsOne}
use Rattle.job_live.specs.ScrubLines.{found_text}
use Rattle.job_live.specs.Reporting.{portless_packet_line}
use Rattle.job_live.specs.declared.entries.TheConstants.{MOST_OF_ENTRIES}

-- a number, and a space
abbrev pub spaced_number : ℕ → List ℕ
spaced_number number = decimal number ++ codes " "

-- the words before the packet of an entry: `entry HH PORT NUMBER GENERATION VERDICT STATUS `, HH the extended address of its bank
unfoldable pub left_words : (bank : ℕ) → EntryValue → List ℕ
left_words bank entry =
    codes "entry " ++ encode_upper (bank ∷ []) ++ codes " " ++ spaced_number entry.port ++ spaced_number entry.number
    ++ spaced_number entry.generation ++ spaced_number entry.verdict ++ spaced_number (status_code entry.status)

-- the line of an entry that is not as it was made: `entry HH damaged`
abbrev pub damaged_left : (bank : ℕ) → List ℕ
damaged_left bank = codes "entry " ++ encode_upper (bank ∷ []) ++ codes " damaged" ++ 10 ∷ []

-- the line of an entry of the bank of that extended address
abbrev pub left_line : (bank : ℕ) → EntryValue → List ℕ
left_line bank entry =
    if is_whole entry then left_words bank entry ++ portless_packet_line entry.packet else damaged_left bank

-- the journal of a bank, if there is one, has one entry: no packet leaves more
abbrev pub has_one : Option BankValue → Bool
has_one bank = length (journal_of bank).entries == 1

-- the line of the entry of the bank of that number, if it has one
abbrev pub left_text : List BankValue → (number : ℕ) → List ℕ
left_text banks number =
    if has_one (slice_get banks number) then flat_map (left_line number) (journal_of (slice_get banks number)).entries else []

-- the same of each bank, if entries are handed out at once
abbrev pub entries_text : (at_once : Bool) → List BankValue → List ℕ
entries_text true banks = flat_map (left_text banks) (range_with_len 0 (length banks))
entries_text false banks = []

-- the lines that report what came of a packet, with the reply that was due. First comes that of a scrub that did not
-- find a program whole, and then those of the entries that are handed out at once
abbrev pub taken_text : (at_once : Bool) → LineResult → JobNodeValue → List ℕ
taken_text at_once taken node =
    found_text taken.answer.found ++ entries_text at_once node.banks
    ++ served_line taken.port taken.answer.reported.served node.reply

-- how many bytes the lines of the entries have at most
abbrev pub text_room_of : (at_once : Bool) → ℕ
text_room_of at_once = if at_once then MOST_OF_ENTRIES else 0

-- the journals of the banks below that number that have one entry were handed out in turn
abbrev pub TurnsLeft : (count : ℕ) → (before after : LiveNodeValue) → Type 0
TurnsLeft zero before after = after ≡ before
TurnsLeft (suc count) before after =
    (between : LiveNodeValue) × TurnsLeft count before between
    × TurnsOne (has_one (slice_get between.node.banks count)) count between after

-- the same of each bank, if entries are handed out at once
abbrev pub HandsOutLeft : (at_once : Bool) → (before after : LiveNodeValue) → Type 0
HandsOutLeft true before after = TurnsLeft (length before.node.banks) before after
HandsOutLeft false before after = after ≡ before

-- no journal of these banks has an entry
abbrev pub AreEmptyJournals : List BankValue → Type 0
AreEmptyJournals [] = Unit {0}
AreEmptyJournals (bank ∷ banks) = (length bank.journal.entries ≡ 0) × AreEmptyJournals banks
