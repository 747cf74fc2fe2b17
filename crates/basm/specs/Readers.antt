-- What the readers of operands promise: the operands write what they read, and they read what operands write.
use Rattle.std.specs.Prelude.{◌≡◌, ℕ, ℤ, pos, List, Option, None, Result, Ok, IfOk}
use Rattle.std.specs.Borrow.{Bor}
use Rattle.bpf_parts.specs.declared.address.Address.{Address}
use Rattle.bpf_parts.specs.Codes.{address_first, address_second, address_subtype}
use Rattle.bpf_insn.specs.declared.insn.Insn.{Insn}
use Rattle.bpf.specs.declared.version.Version.{Version}
use Rattle.bpf.specs.Version.{version_number}
use Rattle.basm_lex.specs.declared.mnemonics.Mnemonic.{Mnemonic}
use Rattle.basm_lex.specs.Mnemonics.{mnemonic_word}
use Rattle.basm_lex.specs.Numbers.{WritesNumber}
use Rattle.basm_lex.specs.Operands.{WritesRegister}
use Rattle.basm.specs.declared.faults.AsmCode.{AsmCode}
use Rattle.basm.specs.Relation.{Four, One, Three, Two, WritesInsn, WritesOperands, texts}

-- ---- an instruction

-- the mnemonic and the operands write what was read, if names have these slots
abbrev pub ReadsAt : (names : List ℕ → Option ℕ) (slot : ℕ) → Mnemonic → List (Bor (List ℕ)) → Result Insn AsmCode
    → Type 0
ReadsAt names slot mnemonic operands read = IfOk read (WritesInsn names slot (mnemonic_word mnemonic) (texts operands))

-- the mnemonic and the operands, which name no slot, write what was read
abbrev pub Reads : Mnemonic → List (Bor (List ℕ)) → Result Insn AsmCode → Type 0
Reads mnemonic operands read = (names : List ℕ → Option ℕ) (slot : ℕ) → ReadsAt names slot mnemonic operands read

-- if the operands write the instruction, it is read
abbrev pub IsReadAt : (names : List ℕ → Option ℕ) (slot : ℕ) → List (Bor (List ℕ)) → Insn → Result Insn AsmCode → Type 0
IsReadAt names slot operands insn read = WritesOperands names slot (texts operands) insn → read ≡ Ok insn

-- if operands that name no slot write the instruction, it is read
abbrev pub IsRead : List (Bor (List ℕ)) → Insn → Result Insn AsmCode → Type 0
IsRead = IsReadAt (λ name. None) 0

-- ---- the operands of `ldimm`

-- the four operands of `ldimm` write a subtype, a register and two numbers
abbrev pub WriteFields : List (Bor (List ℕ)) → ℤ × (ℕ × (ℤ × ℤ)) → Type 0
WriteFields operands found =
    Four (texts operands) (λ a. WritesNumber a found.0) (λ b. WritesRegister b found.1.0)
    (λ c. WritesNumber c found.1.1.0) (λ d. WritesNumber d found.1.1.1)

-- the operands of `ldimm` after its subtype write a register and two numbers
abbrev pub WriteRegisterAndNumbers : List (Bor (List ℕ)) → ℕ × (ℤ × ℤ) → Type 0
WriteRegisterAndNumbers operands found =
    Three (texts operands) (λ a. WritesRegister a found.0) (λ b. WritesNumber b found.1.0)
    (λ c. WritesNumber c found.1.1)

-- the operands of `ldimm` after its register write two numbers
abbrev pub WriteNumbers : List (Bor (List ℕ)) → ℤ × ℤ → Type 0
WriteNumbers operands found = Two (texts operands) (λ a. WritesNumber a found.0) (λ b. WritesNumber b found.1)

-- the address has this subtype and these numbers
abbrev pub HasAddressFields : (subtype first second : ℤ) → Address → Type 0
HasAddressFields subtype first second address =
    (pos (address_subtype address) ≡ subtype) × (address_first address ≡ first) × (address_second address ≡ second)

-- ---- the operand of `.version`

-- the operand of `.version` writes this version
abbrev pub WritesVersion : List (Bor (List ℕ)) → Version → Type 0
WritesVersion operands version = One (texts operands) (λ a. WritesNumber a (pos (version_number version)))

-- ---- the operand of `.budget`

-- the operand of `.budget` writes this budget
abbrev pub WritesBudget : List (Bor (List ℕ)) → ℕ → Type 0
WritesBudget operands budget = One (texts operands) (λ a. WritesNumber a (pos budget))
