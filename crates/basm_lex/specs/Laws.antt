-- Laws of printed words: a reader reads what was printed.
use Rattle.std.specs.Prelude.{◌≡◌, ◌≤◌, ◌<◌, ◌^◌, ◌++◌, ◌∷◌, ℕ, ℤ, List, decimal, pos, FitsSigned}
use Rattle.std.specs.Fmt.{signed_decimal}
use Rattle.std.specs.Int.{w16, w32}
use Rattle.bpf_insn.specs.declared.insn.Insn.{Insn}
use Rattle.bpf_parts.specs.declared.memory.MemoryOperand.{MemoryOperand}
use Rattle.bpf_insn.specs.Spelling.{IsInsn}
use Rattle.bpf_insn.specs.Text.{bits_text, insn_name, insn_operands, name_with_operands}
use Rattle.bpf_parts.specs.Text.{memory_operand_text, register_text, signed_text}
use Rattle.basm_lex.specs.Lines.{operands_of, pieces_of, word_of}
use Rattle.basm_lex.specs.Numbers.{WritesDistance, WritesNumber, WritesWide}
use Rattle.basm_lex.specs.Operands.{WritesMemoryOperand}
use Rattle.basm_lex.specs.Printed.{AreWords, IsWord}

-- ---- printed numbers, distances, memory operands and constants write their values

-- a printed number without a sign writes the number
abbrev pub NumbersAreWritten : Type 0
NumbersAreWritten = (n : ℕ) → n < 2 ^ 31 → WritesNumber (decimal n) (pos n)

-- a printed number with its sign writes the number
abbrev pub SignedAreWritten : Type 0
SignedAreWritten = (z : ℤ) → FitsSigned w32 z → WritesNumber (signed_decimal z) z

-- a printed distance, which always has its sign, writes the distance
abbrev pub DistancesAreWritten : Type 0
DistancesAreWritten = (z : ℤ) → FitsSigned w32 z → WritesDistance (signed_text z) z

-- a printed memory operand writes the memory operand
abbrev pub MemoryOperandsAreWritten : Type 0
MemoryOperandsAreWritten =
    (place : MemoryOperand) → place.base ≤ 10 → FitsSigned w16 place.offset
    → WritesMemoryOperand (memory_operand_text place) place

-- a printed constant of 64 bits writes the constant
abbrev pub ConstantsAreWritten : Type 0
ConstantsAreWritten = (value : ℕ) → value < 2 ^ 64 → WritesWide (bits_text value) value

-- ---- numbers and registers are words, and so are the name and the operands of an instruction

-- a printed number is a word
abbrev pub NumbersAreWords : Type 0
NumbersAreWords = (n : ℕ) → n < 2 ^ 64 → IsWord (decimal n)

-- a printed register is a word
abbrev pub RegistersAreWords : Type 0
RegistersAreWords = (number : ℕ) → number ≤ 10 → IsWord (register_text number)

-- the printed name of an instruction is a word
abbrev pub NamesAreWords : Type 0
NamesAreWords = (insn : Insn) → IsWord (insn_name insn)

-- the printed operands of an instruction are words
abbrev pub OperandsAreWords : Type 0
OperandsAreWords = (insn : Insn) → IsInsn insn → AreWords (insn_operands insn)

-- ---- a line of a name and operands

-- the first word of a line of a name and operands is the name
abbrev pub FirstIsTheName : Type 0
FirstIsTheName =
    (name : List ℕ) (xs : List (List ℕ)) → IsWord name → AreWords xs
    → word_of (name_with_operands name xs) ≡ name

-- the operands of such a line are those that were printed
abbrev pub RestAreTheOperands : Type 0
RestAreTheOperands =
    (name : List ℕ) (xs : List (List ℕ)) → IsWord name → AreWords xs
    → operands_of (name_with_operands name xs) ≡ xs

-- such a line has no line feed in it: in a text it is one line
abbrev pub IsOneLine : Type 0
IsOneLine =
    (name : List ℕ) (xs : List (List ℕ)) (rest : List ℕ) → IsWord name → AreWords xs
    → pieces_of (name_with_operands name xs ++ 10 ∷ rest) ≡ name_with_operands name xs ∷ pieces_of rest
