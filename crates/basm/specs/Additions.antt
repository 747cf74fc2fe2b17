-- What a line of a directive or an instruction adds to the parts of an image.
use Rattle.std.specs.Prelude.{◌≤◌, ℕ, List, Option, Result}
use Rattle.std.specs.Borrow.{Bor}
use Rattle.bpf.specs.declared.header.TheConstants.{MAX_SLOTS}
use Rattle.bpf.specs.declared.loops.Loop.{Loop}
use Rattle.bpf.specs.declared.version.Version.{Version}
use Rattle.bpf_insn.specs.declared.insn.Insn.{Insn}
use Rattle.basm_lex.specs.declared.mnemonics.Mnemonic.{Mnemonic}
use Rattle.basm_lex.specs.Mnemonics.{mnemonic_word}
use Rattle.basm.specs.declared.partial_image.PartialImage.{PartialImage}
use Rattle.basm.specs.declared.faults.AsmCode.{AsmCode}
use Rattle.basm.specs.PartialImage.{AddsItem, PushesInsn, UnlessMemory, WritesLoop}
use Rattle.basm.specs.Readers.{WritesBudget, WritesVersion}
use Rattle.basm.specs.Relation.{Budget, Code, Item, OneLoop, OneVersion, WritesInsn, texts}

-- the item was added, unless memory was refused
abbrev pub IsAdded : Item → (old new : PartialImage) → {X : Type 0} → Result X AsmCode → Type 0
IsAdded item old new result = UnlessMemory result (λ _. AddsItem item old new)

-- the version that the operand writes was added
abbrev pub AddsVersion : List (Bor (List ℕ)) → (old new : PartialImage) → Type 0
AddsVersion operands old new =
    (version : Version) × WritesVersion operands version × AddsItem (OneVersion version) old new

-- the budget that the operand writes was added
abbrev pub AddsBudget : List (Bor (List ℕ)) → (old new : PartialImage) → Type 0
AddsBudget operands old new = (n : ℕ) × WritesBudget operands n × AddsItem (Budget n) old new

-- the loop that the operands write was added
abbrev pub AddsLoop : (names : List ℕ → Option ℕ) → List (Bor (List ℕ)) → (old new : PartialImage) → Type 0
AddsLoop names operands old new = (l : Loop) × WritesLoop names (texts operands) l × AddsItem (OneLoop l) old new

-- the instruction that a mnemonic and operands write was added
abbrev pub AddsInsn : (names : List ℕ → Option ℕ) → Mnemonic → List (Bor (List ℕ)) → (old new : PartialImage) → Type 0
AddsInsn names mnemonic operands old new =
    (insn : Insn) × WritesInsn names old.slots (mnemonic_word mnemonic) (texts operands) insn
    × AddsItem (Code insn) old new × (new.slots ≤ MAX_SLOTS)

-- the instruction that a mnemonic and operands write was appended at the slot
abbrev pub AppendsInsn : (names : List ℕ → Option ℕ) (slot : ℕ) → Mnemonic → List (Bor (List ℕ))
    → (old new : List Insn) (after : ℕ) → Type 0
AppendsInsn names slot mnemonic operands old new after =
    (insn : Insn) × WritesInsn names slot (mnemonic_word mnemonic) (texts operands) insn
    × PushesInsn old new slot insn after
