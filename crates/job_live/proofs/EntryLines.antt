-- Entries that are printed one after the other.
use Rattle.std.proofs.Common.{◌≡◌, ◌+◌, ◌<◌, ℕ, Bool, List, [], ◌∷◌, ◌++◌, length, take, get_or, Option, sym, ap, subst, ◌∙◌}
use Rattle.std.specs.Prelude.{if◌then◌else◌}
use Rattle.std.specs.Io.KnownBytes.{Appends}
use Rattle.std.specs.List.{flat_map}
use Rattle.std.proofs.lemmas.Grind.{flat_map-append}
use Rattle.std.proofs.lemmas.List.{append-nil, take_more}
use Rattle.bank.specs.Records.{EntryValue, is_whole}
use Rattle.rmap.specs.Codes.{status_code}
use Rattle.rmap.specs.declared.status.Status.{Status}
use Rattle.job_live.specs.Reporting.{damaged_line, entry_line, entry_words, whole_line}

-- the line of an entry, by whether it is as it was made
pub line_by : (entry : EntryValue) (whole : Bool) → is_whole entry ≡ whole → entry_line entry ≡ (if whole then whole_line entry else damaged_line)
line_by entry whole is = ap (λ (w : Bool). if w then whole_line entry else damaged_line) is

-- one entry more, at its place
pub entries_at : (entries : List EntryValue) (k : ℕ) (d entry : EntryValue) → k < length entries → entry ≡ get_or entries k d
    → flat_map entry_line (take (k + 1) entries) ≡ flat_map entry_line (take k entries) ++ entry_line entry
entries_at entries k d entry below is =
    ap (λ (l : List EntryValue). flat_map entry_line l) (take_more entries k d below)
    ∙ flat_map-append entry_line (take k entries) (get_or entries k d ∷ [])
    ∙ ap (λ (l : List ℕ). flat_map entry_line (take k entries) ++ l) (append-nil (entry_line (get_or entries k d)))
    ∙ ap (λ (e : EntryValue). flat_map entry_line (take k entries) ++ entry_line e) (sym is)

-- the words of an entry, of numbers that are its own
pub own_words : (old new : Option (List ℕ)) (entry : EntryValue) (port number generation verdict code : ℕ) (status : Status) → port ≡ entry.port → number ≡ entry.number
    → generation ≡ entry.generation → verdict ≡ entry.verdict → code ≡ status_code status → status ≡ entry.status
    → Appends old new (entry_words port number generation verdict code)
    → Appends old new (entry_words entry.port entry.number entry.generation entry.verdict (status_code entry.status))
own_words old new entry port number generation verdict code status is_port is_number is_generation is_verdict is_code is_status reported =
    let same =
    ap (λ (n : ℕ). entry_words n number generation verdict code) is_port
    ∙ ap (λ (n : ℕ). entry_words entry.port n generation verdict code) is_number
    ∙ ap (λ (n : ℕ). entry_words entry.port entry.number n verdict code) is_generation
    ∙ ap (λ (n : ℕ). entry_words entry.port entry.number entry.generation n code) is_verdict
    ∙ ap (λ (n : ℕ). entry_words entry.port entry.number entry.generation entry.verdict n) (is_code ∙ ap status_code is_status) in
    subst (λ (text : List ℕ). Appends old new text) same reported
