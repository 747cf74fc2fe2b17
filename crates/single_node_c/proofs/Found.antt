-- What a call reports of an entry at a place of a journal.
use Rattle.std.proofs.Common.{◌≡◌, ◌<◌, ℕ, Bool, true, false, List, length, get_or, Option, Some, nat_le, sym, ap, ◌∙◌}
use Rattle.std.specs.Prelude.{Result, Ok, Err, if◌then◌else◌, slice_get}
use Rattle.std.proofs.lemmas.Option.{slice_get-get_or}
use Rattle.bank.specs.Records.{BankValue, EntryValue, is_whole}
use Rattle.single_node.specs.Nodes.{SingleNodeValue}
use Rattle.single_node_c.specs.Journals.{entries_of_bank, entry_at, found_entry}
use Rattle.single_node_c.specs.declared.codes.TheConstants.{DAMAGED, NO_BANK}

abbrev by_bank : Result EntryValue ℕ → Bool → Result EntryValue ℕ
by_bank rest none = if none then Err NO_BANK else rest

abbrev by_entry : EntryValue → Bool → Result EntryValue ℕ
by_entry entry whole = if whole then Ok entry else Err DAMAGED

-- an entry that is at a place
pub item_at : (entries : List EntryValue) (place : ℕ) (entry : EntryValue) → place < length entries → entry ≡ get_or entries place entry → slice_get entries place ≡ Some entry
item_at entries place entry low is = slice_get-get_or entries place entry low ∙ ap (λ (e : EntryValue). Some e) (sym is)

-- an entry that is there, by whether it is as it was made
found : (node : SingleNodeValue) (number place : ℕ) (bank : BankValue) (entries : List EntryValue) (entry : EntryValue) (whole : Bool) → nat_le (length node.banks) number ≡ false
    → slice_get node.banks number ≡ Some bank → entries ≡ bank.journal.entries → slice_get entries place ≡ Some entry → is_whole entry ≡ whole
    → entry_at number place node ≡ by_entry entry whole
found node number place bank entries entry whole inside own are at is =
    ap (λ (none : Bool). by_bank (found_entry (slice_get (entries_of_bank (slice_get node.banks number)) place)) none) inside
    ∙ ap (λ (there : Option BankValue). found_entry (slice_get (entries_of_bank there) place)) own
    ∙ ap (λ (l : List EntryValue). found_entry (slice_get l place)) (sym are)
    ∙ ap (λ (there : Option EntryValue). found_entry there) at
    ∙ ap (λ (w : Bool). by_entry entry w) is

pub found_whole : (node : SingleNodeValue) (number place : ℕ) (bank : BankValue) (entries : List EntryValue) (entry : EntryValue) → nat_le (length node.banks) number ≡ false
    → slice_get node.banks number ≡ Some bank → entries ≡ bank.journal.entries → slice_get entries place ≡ Some entry → is_whole entry ≡ true
    → entry_at number place node ≡ Ok entry
found_whole node number place bank entries entry inside own are at is = found node number place bank entries entry true inside own are at is

pub found_damaged : (node : SingleNodeValue) (number place : ℕ) (bank : BankValue) (entries : List EntryValue) (entry : EntryValue) → nat_le (length node.banks) number ≡ false
    → slice_get node.banks number ≡ Some bank → entries ≡ bank.journal.entries → slice_get entries place ≡ Some entry → is_whole entry ≡ false
    → entry_at number place node ≡ Err DAMAGED
found_damaged node number place bank entries entry inside own are at is = found node number place bank entries entry false inside own are at is
