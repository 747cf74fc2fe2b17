-- The text of an instruction: its name, and its operands with a comma and a space between them.
use Rattle.std.specs.Prelude.{ℕ, ◌-◌, false, List, [], ◌∷◌, ◌++◌, length, replicate, codes, decimal}
use Rattle.std.specs.Fmt.{digits, signed_decimal}
use Rattle.bpf_parts.specs.declared.distance.Distance.TheVariants.{Short, Long}
use Rattle.bpf_insn.specs.declared.insn.Insn.{Insn}
use Rattle.bpf_insn.specs.declared.insn.Insn.TheVariants.{Alu, Negate, MoveSigned, ByteSwap, Load, Store, Jump, Goto}
use Rattle.bpf_insn.specs.declared.insn.Insn.TheVariants.{Wide, LoadMap, LoadAddress, Call, Exit}
use Rattle.bpf_parts.specs.Codes.{address_subtype, address_first, address_second}
use Rattle.bpf_parts.specs.Text.{register_text, operand_text, signed_text, memory_operand_text, width_suffix}
use Rattle.bpf_parts.specs.Text.{alu_name, condition_name, extension_name, swap_name, swap_bits_name, load_suffix}
use Rattle.bpf_parts.specs.Text.{store_suffix, store_prefix, callee_name}

-- ---- the statement

-- the name of an instruction
abbrev pub insn_name : Insn → List ℕ
insn_name (Alu op width dst src) = alu_name op ++ width_suffix width
insn_name (Negate width dst) = codes "neg" ++ width_suffix width
insn_name (MoveSigned extension dst src) = extension_name extension
insn_name (ByteSwap swap bits dst) = swap_name swap ++ swap_bits_name bits
insn_name (Load size dst place) = codes "ldx" ++ load_suffix size
insn_name (Store size place src) = store_prefix src ++ store_suffix size
insn_name (Jump comparison offset) = condition_name comparison.condition ++ width_suffix comparison.width
insn_name (Goto (Short offset)) = codes "ja"
insn_name (Goto (Long distance)) = codes "ja32"
insn_name (Wide dst value) = codes "lddw"
insn_name (LoadMap dst index) = codes "ldmap"
insn_name (LoadAddress dst address) = codes "ldimm"
insn_name (Call callee number) = callee_name callee
insn_name Exit = codes "exit"

-- ---- what else contracts and proofs say

-- `0x` and 16 hexadecimal digits in lower case
abbrev pub bits_text : ℕ → List ℕ
bits_text value = codes "0x" ++ replicate (16 - length (digits 16 false value)) 48 ++ digits 16 false value

-- the operands of an instruction, in the order of its text
abbrev pub insn_operands : Insn → List (List ℕ)
insn_operands (Alu op width dst src) = register_text dst ∷ operand_text src ∷ []
insn_operands (Negate width dst) = register_text dst ∷ []
insn_operands (MoveSigned extension dst src) = register_text dst ∷ register_text src ∷ []
insn_operands (ByteSwap swap bits dst) = register_text dst ∷ []
insn_operands (Load size dst place) = register_text dst ∷ memory_operand_text place ∷ []
insn_operands (Store size place src) = memory_operand_text place ∷ operand_text src ∷ []
insn_operands (Jump comparison offset) =
    register_text comparison.dst ∷ operand_text comparison.src ∷ signed_text offset ∷ []
insn_operands (Goto (Short offset)) = signed_text offset ∷ []
insn_operands (Goto (Long distance)) = signed_text distance ∷ []
insn_operands (Wide dst value) = register_text dst ∷ bits_text value ∷ []
insn_operands (LoadMap dst index) = register_text dst ∷ signed_decimal index ∷ []
insn_operands (LoadAddress dst address) =
    decimal (address_subtype address) ∷ register_text dst ∷ signed_decimal (address_first address)
    ∷ signed_decimal (address_second address) ∷ []
insn_operands (Call callee number) = signed_decimal number ∷ []
insn_operands Exit = []

-- operands with a comma and a space before each
abbrev pub more_operands : List (List ℕ) → List ℕ
more_operands [] = []
more_operands (x ∷ xs) = codes ", " ++ x ++ more_operands xs

-- a name and its operands
abbrev pub name_with_operands : List ℕ → List (List ℕ) → List ℕ
name_with_operands name [] = name
name_with_operands name (x ∷ xs) = name ++ codes " " ++ x ++ more_operands xs

-- the text of an instruction
unfoldable pub insn_text : Insn → List ℕ
insn_text insn = name_with_operands (insn_name insn) (insn_operands insn)
