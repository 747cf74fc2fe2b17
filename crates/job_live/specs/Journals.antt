-- The journals of a node's banks, in the order of the banks: what is printed of them, and that they were handed out.
use Rattle.std.specs.Prelude.{◌≡◌, ◌||◌, nat_lt, ℕ, zero, suc, Bool, true, false, if◌then◌else◌, List, [], ◌∷◌, ◌++◌, length, codes, Option, slice_get}
use Rattle.std.specs.Int.{to_be_bytes, w32}
use Rattle.std.specs.Io.KnownBytes.{Appends}
use Rattle.std.specs.List.{flat_map, range_with_len}
use Rattle.hex.specs.Hex.{encode_upper}
use Rattle.bank.specs.Records.{BankValue}
use Rattle.job_nodes.specs.JobNode.{HandsOut, first_address_of, is_full, journal_of}
use Rattle.job_nodes.specs.LiveNodes.{KeepsGuard, LiveNodeValue}
use Rattle.job_live.specs.Reporting.{journal_text}

-- the line before the entries of a bank: `bank HH BASE`, its extended address and that of its first byte
abbrev pub bank_line : (number first : ℕ) → List ℕ
bank_line number first =
    codes "bank " ++ encode_upper (number ∷ []) ++ codes " " ++ encode_upper (to_be_bytes w32 first) ++ 10 ∷ []

-- a node has more than one bank
abbrev pub has_several : List BankValue → Bool
has_several banks = nat_lt 1 (length banks)

-- what comes before the entries of a bank: that line if there are several banks, and else nothing
abbrev pub heading : (several : Bool) → (number first : ℕ) → List ℕ
heading true number first = bank_line number first
heading false number first = []

-- the lines of the journal of the bank of that number
abbrev pub bank_text : List BankValue → (number : ℕ) → List ℕ
bank_text banks number =
    heading (has_several banks) number (first_address_of (slice_get banks number))
    ++ journal_text (journal_of (slice_get banks number)).entries

-- the journal of the bank of that number is handed out: each is, or those that are full
abbrev pub is_journal_due : (each : Bool) → List BankValue → (number : ℕ) → Bool
is_journal_due each banks number = each || is_full (slice_get banks number)

-- the lines of the journal of the bank of that number, if it is handed out
abbrev pub due_text : (each : Bool) → List BankValue → (number : ℕ) → List ℕ
due_text each banks number = if is_journal_due each banks number then bank_text banks number else []

-- the lines of the journals that are handed out
abbrev pub journals_text : (each : Bool) → List BankValue → List ℕ
journals_text each banks = flat_map (due_text each banks) (range_with_len 0 (length banks))

-- the journal of the bank of that number was handed out, or not
abbrev pub TurnsOne : (is_journal_due : Bool) → (number : ℕ) → (before after : LiveNodeValue) → Type 0
TurnsOne true number before after =
    HandsOut number before.node after.node (journal_of (slice_get before.node.banks number)) × KeepsGuard before after
TurnsOne false number before after = after ≡ before

-- the journals of the first `count` banks were handed out in turn: each, or those that are full
abbrev pub TurnsJournals : (each : Bool) → (count : ℕ) → (before after : LiveNodeValue) → Type 0
TurnsJournals each zero before after = after ≡ before
TurnsJournals each (suc count) before after =
    (between : LiveNodeValue) × TurnsJournals each count before between
    × TurnsOne (is_journal_due each between.node.banks count) count between after

-- the journals of all banks were handed out, each or those that are full, and their lines were printed
pub record PrintsJournals (each : Bool) (before after : LiveNodeValue) (old new : Option (List ℕ)) : Type 0 where
  pub turned : TurnsJournals each (length before.node.banks) before after
  pub printed : Appends old new (journals_text each before.node.banks)
