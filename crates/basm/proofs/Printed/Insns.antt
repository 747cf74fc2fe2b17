-- The printed operands of an instruction write it.
use Rattle.std.proofs.Common.{◌≡◌, ℕ, ◌<◌, ◌≤◌, ◌^◌, ℤ, pos, List, ◌∷◌, ◌++◌, Option, inr, refl, lit<, arith}
use Rattle.std.specs.Prelude.{◌==◌, decimal, FitsSigned}
use Rattle.std.specs.Fmt.{signed_decimal}
use Rattle.std.specs.Int.{w16, w32}
use Rattle.std.specs.List.{slice_split}
use Rattle.std.proofs.lemmas.Int.{ints}
use Rattle.bpf_parts.specs.declared.memory.MemoryOperand.{MemoryOperand}
use Rattle.bpf_parts.specs.declared.operation.Operand.{Operand}
use Rattle.bpf_parts.specs.declared.operation.Operand.TheVariants.{FromRegister, Immediate}
use Rattle.bpf_parts.specs.declared.address.Address.{Address}
use Rattle.bpf_parts.specs.declared.address.Address.TheVariants.{MapByFile}
use Rattle.bpf_parts.specs.declared.distance.Distance.TheVariants.{Short, Long}
use Rattle.bpf_insn.specs.declared.insn.Insn.{Insn}
use Rattle.bpf_insn.specs.declared.insn.Insn.TheVariants.{Alu, Negate, MoveSigned, ByteSwap, Load, Store, Jump, Goto, Wide, LoadMap, LoadAddress, Call, Exit}
use Rattle.bpf_parts.specs.Codes.{address_first, address_second, address_subtype}
use Rattle.bpf_insn.specs.Spelling.{IsInsn}
use Rattle.bpf_parts.specs.Operands.{IsOperand}
use Rattle.bpf_insn.specs.Text.{bits_text, insn_name, insn_operands, name_with_operands}
use Rattle.bpf_parts.specs.Text.{operand_text, memory_operand_text, register_text, signed_text}
use Rattle.basm_lex.specs.Lines.{operands_of, word_of}
use Rattle.basm_lex.specs.Numbers.{WritesDistance, WritesNumber, WritesWide}
use Rattle.basm_lex.specs.Operands.{WritesMemoryOperand}
use Rattle.basm_lex.specs.Printed.{AreWords, IsWord}
use Rattle.basm.specs.Relation.{WritesOperand, WritesOperands}

-- the laws of `basm_lex` that the proofs use
pub record PrintedWords : Type 0 where
  pub number : (n : ℕ) → n < 2 ^ 31 → WritesNumber (decimal n) (pos n)
  pub signed : (z : ℤ) → FitsSigned w32 z → WritesNumber (signed_decimal z) z
  pub distance : (z : ℤ) → FitsSigned w32 z → WritesDistance (signed_text z) z
  pub place : (place : MemoryOperand) → place.base ≤ 10 → FitsSigned w16 place.offset → WritesMemoryOperand (memory_operand_text place) place
  pub constant : (value : ℕ) → value < 2 ^ 64 → WritesWide (bits_text value) value
  pub numeral : (n : ℕ) → n < 2 ^ 64 → IsWord (decimal n)
  pub register : (number : ℕ) → number ≤ 10 → IsWord (register_text number)
  pub name : (insn : Insn) → IsWord (insn_name insn)
  pub operands : (insn : Insn) → IsInsn insn → AreWords (insn_operands insn)
  pub first : (name : List ℕ) (xs : List (List ℕ)) → IsWord name → AreWords xs → word_of (name_with_operands name xs) ≡ name
  pub rest : (name : List ℕ) (xs : List (List ℕ)) → IsWord name → AreWords xs → operands_of (name_with_operands name xs) ≡ xs
  pub line : (name : List ℕ) (xs : List (List ℕ)) (rest : List ℕ) → IsWord name → AreWords xs
      → slice_split (λ c. c == 10) (name_with_operands name xs ++ 10 ∷ rest) ≡ name_with_operands name xs ∷ slice_split (λ c. c == 10) rest

address_small : (address : Address) → address_subtype address < 7
address_small (MapByFile first) = lit< tt
address_small _ = lit< tt

-- a number that fits 16 bits fits 32
wider : (z : ℤ) → FitsSigned w16 z → FitsSigned w32 z
wider z fits = omega (arith, ints)

operand_writes : PrintedWords → (src : Operand) → IsOperand src → WritesOperand (operand_text src) src
operand_writes laws (FromRegister register) is = (is, refl)
operand_writes laws (Immediate value) is = laws.signed value is

pub operands_write : PrintedWords → (names : List ℕ → Option ℕ) (slot : ℕ) (insn : Insn) → IsInsn insn → WritesOperands names slot (insn_operands insn) insn
operands_write laws names slot (Alu op width dst src) is = ((is.0, refl), operand_writes laws src is.1)
operands_write laws names slot (Negate width dst) is = (is, refl)
operands_write laws names slot (MoveSigned extension dst src) is = ((is.0, refl), (is.1, refl))
operands_write laws names slot (ByteSwap swap bits dst) is = (is, refl)
operands_write laws names slot (Load size dst place) is = ((is.0, refl), laws.place place is.1 is.2)
operands_write laws names slot (Store size place src) is = (laws.place place is.0 is.1, operand_writes laws src is.2)
operands_write laws names slot (Jump comparison offset) is =
    ((is.0, refl), (operand_writes laws comparison.src is.1, (inr (laws.distance offset (wider offset is.2)), is.2)))
operands_write laws names slot (Goto (Short offset)) is = (inr (laws.distance offset (wider offset is)), is)
operands_write laws names slot (Goto (Long distance)) is = (inr (laws.distance distance is), is)
operands_write laws names slot (Wide dst value) is = ((is.0, refl), laws.constant value is.1)
operands_write laws names slot (LoadMap dst index) is = ((is.0, refl), laws.signed index is.1)
operands_write laws names slot (LoadAddress dst address) is = (
  laws.number (address_subtype address) (omega (arith, address_small address)),
  ((is.0, refl), (laws.signed (address_first address) is.1, laws.signed (address_second address) is.2)),
)
operands_write laws names slot (Call callee number) is = laws.signed number is
operands_write laws names slot Exit is = refl
