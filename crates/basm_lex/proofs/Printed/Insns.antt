-- The printed name and operands of an instruction are words.
use Rattle.std.proofs.Common.{◌<◌, refl, arith, lit<}
use Rattle.bpf_parts.specs.declared.operation.Width.{Width}
use Rattle.bpf_parts.specs.declared.operation.Width.TheVariants.{Bits32, Bits64}
use Rattle.bpf_parts.specs.declared.operation.AluOp.{AluOp}
use Rattle.bpf_parts.specs.declared.operation.AluOp.TheVariants.{Add}
use Rattle.bpf_parts.specs.declared.operation.Operand.{Operand}
use Rattle.bpf_parts.specs.declared.operation.Operand.TheVariants.{FromRegister, Immediate}
use Rattle.bpf_parts.specs.declared.operation.Extension.{Extension}
use Rattle.bpf_parts.specs.declared.operation.Extension.TheVariants.{ByteTo32}
use Rattle.bpf_parts.specs.declared.operation.Swap.{Swap}
use Rattle.bpf_parts.specs.declared.operation.Swap.TheVariants.{ToLittle}
use Rattle.bpf_parts.specs.declared.operation.SwapBits.{SwapBits}
use Rattle.bpf_parts.specs.declared.operation.SwapBits.TheVariants.{Swap16}
use Rattle.bpf_parts.specs.declared.operation.Condition.{Condition}
use Rattle.bpf_parts.specs.declared.operation.Condition.TheVariants.{Equal}
use Rattle.bpf_parts.specs.declared.memory.Size.{Size}
use Rattle.bpf_parts.specs.declared.memory.Size.TheVariants.{Byte}
use Rattle.bpf_parts.specs.declared.memory.LoadSize.{LoadSize}
use Rattle.bpf_parts.specs.declared.memory.LoadSize.TheVariants.{LoadByte}
use Rattle.bpf_parts.specs.declared.address.Address.{Address}
use Rattle.bpf_parts.specs.declared.address.Address.TheVariants.{MapByFile}
use Rattle.bpf_parts.specs.declared.callee.Callee.{Callee}
use Rattle.bpf_parts.specs.declared.callee.Callee.TheVariants.{Helper}
use Rattle.bpf_parts.specs.declared.distance.Distance.TheVariants.{Short, Long}
use Rattle.bpf_insn.specs.declared.insn.Insn.{Insn}
use Rattle.bpf_insn.specs.declared.insn.Insn.TheVariants.{Alu, Negate, MoveSigned, ByteSwap, Load, Store, Jump, Goto, Wide, LoadMap, LoadAddress, Call, Exit}
use Rattle.bpf_parts.specs.Codes.{address_first, address_second, address_subtype}
use Rattle.bpf_insn.specs.Spelling.{IsInsn}
use Rattle.bpf_insn.specs.Text.{insn_name, insn_operands}
use Rattle.bpf_parts.specs.Text.{alu_name, callee_name, condition_name, extension_name, load_suffix, store_prefix, store_suffix, swap_bits_name, swap_name, width_suffix}
use Rattle.basm_lex.specs.Printed.{AreWords, IsWord}
use Rattle.basm_lex.proofs.Printed.Plain.{ArePlain, word_append}
use Rattle.basm_lex.proofs.Printed.Texts.{bits_word, decimal_word, distance_word, operand_word, place_word, register_word, short_distance_word, signed_decimal_word}

-- ---- names

width_plain : (width : Width) → ArePlain (width_suffix width)
width_plain Bits32 = refl
width_plain Bits64 = refl

alu_word : (op : AluOp) → IsWord (alu_name op)
alu_word Add = refl
alu_word _ = refl

extension_word : (extension : Extension) → IsWord (extension_name extension)
extension_word ByteTo32 = refl
extension_word _ = refl

swap_word : (swap : Swap) → IsWord (swap_name swap)
swap_word ToLittle = refl
swap_word _ = refl

swap_bits_plain : (bits : SwapBits) → ArePlain (swap_bits_name bits)
swap_bits_plain Swap16 = refl
swap_bits_plain _ = refl

load_plain : (size : LoadSize) → ArePlain (load_suffix size)
load_plain LoadByte = refl
load_plain _ = refl

store_plain : (size : Size) → ArePlain (store_suffix size)
store_plain Byte = refl
store_plain _ = refl

store_word : (src : Operand) → IsWord (store_prefix src)
store_word (FromRegister register) = refl
store_word (Immediate value) = refl

condition_word : (condition : Condition) → IsWord (condition_name condition)
condition_word Equal = refl
condition_word _ = refl

callee_word : (callee : Callee) → IsWord (callee_name callee)
callee_word Helper = refl
callee_word _ = refl

pub name_word : (insn : Insn) → IsWord (insn_name insn)
name_word (Alu op width dst src) = word_append (alu_name op) (width_suffix width) (alu_word op) (width_plain width)
name_word (Negate width dst) = word_append (insn_name (Negate Bits64 dst)) (width_suffix width) refl (width_plain width)
name_word (MoveSigned extension dst src) = extension_word extension
name_word (ByteSwap swap bits dst) = word_append (swap_name swap) (swap_bits_name bits) (swap_word swap) (swap_bits_plain bits)
name_word (Load size dst place) = load_plain size
name_word (Store size place src) = word_append (store_prefix src) (store_suffix size) (store_word src) (store_plain size)
name_word (Jump comparison offset) = word_append (condition_name comparison.condition) (width_suffix comparison.width) (condition_word comparison.condition) (width_plain comparison.width)
name_word (Goto (Short offset)) = refl
name_word (Goto (Long distance)) = refl
name_word (Wide dst value) = refl
name_word (LoadMap dst index) = refl
name_word (LoadAddress dst address) = refl
name_word (Call callee number) = callee_word callee
name_word Exit = refl

-- ---- operands

address_small : (address : Address) → address_subtype address < 7
address_small (MapByFile first) = lit< tt
address_small _ = lit< tt

pub operands_words : (insn : Insn) → IsInsn insn → AreWords (insn_operands insn)
operands_words (Alu op width dst src) is = (register_word dst is.0, (operand_word src is.1, tt))
operands_words (Negate width dst) is = (register_word dst is, tt)
operands_words (MoveSigned extension dst src) is = (register_word dst is.0, (register_word src is.1, tt))
operands_words (ByteSwap swap bits dst) is = (register_word dst is, tt)
operands_words (Load size dst place) is = (register_word dst is.0, (place_word place is.1 is.2, tt))
operands_words (Store size place src) is = (place_word place is.0 is.1, (operand_word src is.2, tt))
operands_words (Jump comparison offset) is = (register_word comparison.dst is.0, (operand_word comparison.src is.1, (short_distance_word offset is.2, tt)))
operands_words (Goto (Short offset)) is = (short_distance_word offset is, tt)
operands_words (Goto (Long distance)) is = (distance_word distance is, tt)
operands_words (Wide dst value) is = (register_word dst is.0, (bits_word value is.1, tt))
operands_words (LoadMap dst index) is = (register_word dst is.0, (signed_decimal_word index is.1, tt))
operands_words (LoadAddress dst address) is = (
  decimal_word (address_subtype address) (omega (arith, address_small address)),
  (register_word dst is.0, (signed_decimal_word (address_first address) is.1, (signed_decimal_word (address_second address) is.2, tt))),
)
operands_words (Call callee number) is = (signed_decimal_word number is, tt)
operands_words Exit is = tt
