-- A node that is not shared yet, and bytes that are put into its banks.
use Rattle.std.specs.Prelude.{ℕ, zero, suc, Bool, false, List, [], ◌∷◌, map}
use Rattle.bank.specs.Records.{BankValue, JournalValue, after_setting, covers}
use Rattle.annals.specs.Banks.{KeptValue}

-- the banks of those, in order
abbrev pub banks_of : List KeptValue → List BankValue
banks_of kept = map (λ (k : KeptValue). k.bank) kept

-- the numbers of their chains, in order
abbrev pub chain_numbers : List KeptValue → List ℕ
chain_numbers kept = map (λ (k : KeptValue). k.chain.number) kept

-- that many bytes from an address on lie in the bank of that number, if there is one
abbrev pub covers_at : List BankValue → (number address count : ℕ) → Bool
covers_at [] number address count = false
covers_at (bank ∷ banks) zero address count = covers bank address count
covers_at (bank ∷ banks) (suc number) address count = covers_at banks number address count

-- the banks, of which that of the number has those bytes at that address, and a new journal, which begins with that memory
abbrev pub with_setting : List BankValue → (number address : ℕ) → List ℕ → JournalValue → List BankValue
with_setting [] number address bytes fresh = []
with_setting (bank ∷ banks) zero address bytes fresh = after_setting bank address bytes fresh ∷ banks
with_setting (bank ∷ banks) (suc number) address bytes fresh = bank ∷ with_setting banks number address bytes fresh
