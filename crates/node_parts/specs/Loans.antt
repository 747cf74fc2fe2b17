-- What becomes of banks of which one was lent.
use Rattle.std.specs.Prelude.{ℕ, List, slice_set}
use Rattle.std.specs.Borrow.{Lends, MutBor, Fml}
use Rattle.bank.specs.Records.{BankValue}
use Rattle.bank.specs.contracts.bank.Bank.{the_row as bank_row}
use Rattle.node_parts.specs.contracts.banks.Banks.{the_row as banks_row}

-- the banks end with bank k as it was left
abbrev pub LendsBank : MutBor (List BankValue) → ℕ → MutBor BankValue → Fml
LendsBank banks k bank = Lends banks_row bank_row banks bank (slice_set banks.now k)
