-- Printed registers, numbers, memory operands and names are words.
use Rattle.std.proofs.Common.{ℕ, suc, ◌^◌, ◌<◌, ◌≤◌, ℤ, pos, negsuc, ◌++◌, arith, refl, lit≤}
use Rattle.std.specs.Prelude.{codes, decimal, FitsSigned}
use Rattle.std.specs.Int.{w16, w32}
use Rattle.std.specs.Fmt.{signed_decimal}
use Rattle.std.proofs.lemmas.Fmt.{decimal_is_IsNumeral}
use Rattle.bpf_parts.specs.declared.operation.Operand.{Operand}
use Rattle.bpf_parts.specs.declared.operation.Operand.TheVariants.{FromRegister, Immediate}
use Rattle.bpf_parts.specs.Operands.{IsOperand}
use Rattle.bpf_parts.specs.declared.memory.MemoryOperand.{MemoryOperand}
use Rattle.bpf_insn.specs.Text.{bits_text}
use Rattle.bpf_parts.specs.Text.{operand_text, memory_operand_text, register_text, signed_text}
use Rattle.basm_lex.proofs.Printed.Numerals.{padded, padded_numeral}
use Rattle.basm_lex.specs.Printed.{IsWord}
use Rattle.basm_lex.proofs.Printed.Plain.{plain_before, plain_word, word_append, word_numeral}

pub decimal_word : (n : ℕ) → n < 2 ^ 64 → IsWord (decimal n)
decimal_word n small = word_numeral 10 (lit≤ tt) (decimal n) (decimal_is_IsNumeral n small).0

pub register_word : (register : ℕ) → register ≤ 10 → IsWord (register_text register)
register_word register small = plain_before (codes "r") (decimal register) refl (decimal_word register (omega arith))

pub signed_decimal_word : (z : ℤ) → FitsSigned w32 z → IsWord (signed_decimal z)
signed_decimal_word (pos n) fits = decimal_word n (omega arith)
signed_decimal_word (negsuc n) fits = plain_before (codes "-") (decimal (suc n)) refl (decimal_word (suc n) (omega arith))

pub distance_word : (z : ℤ) → FitsSigned w32 z → IsWord (signed_text z)
distance_word (pos n) fits = plain_before (codes "+") (decimal n) refl (decimal_word n (omega arith))
distance_word (negsuc n) fits = plain_before (codes "-") (decimal (suc n)) refl (decimal_word (suc n) (omega arith))

pub short_distance_word : (z : ℤ) → FitsSigned w16 z → IsWord (signed_text z)
short_distance_word (pos n) fits = plain_before (codes "+") (decimal n) refl (decimal_word n (omega arith))
short_distance_word (negsuc n) fits = plain_before (codes "-") (decimal (suc n)) refl (decimal_word (suc n) (omega arith))

pub operand_word : (operand : Operand) → IsOperand operand → IsWord (operand_text operand)
operand_word (FromRegister register) is = register_word register is
operand_word (Immediate value) is = signed_decimal_word value is

pub bits_word : (value : ℕ) → value < 2 ^ 64 → IsWord (bits_text value)
bits_word value small =
    plain_before (codes "0x") (padded value) refl (word_numeral 16 (lit≤ tt) (padded value) (padded_numeral value small))

pub place_word : (place : MemoryOperand) → place.base ≤ 10 → FitsSigned w16 place.offset → IsWord (memory_operand_text place)
place_word place small fits =
    let base = register_text place.base in
    let offset = signed_text place.offset in
    let front = word_append base offset (register_word place.base small) (plain_word offset (short_distance_word place.offset fits)) in
    plain_before (codes "[") ((base ++ offset) ++ codes "]") refl (word_append (base ++ offset) (codes "]") front refl)
