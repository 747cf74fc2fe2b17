-- The fields of an instruction fit their bits.
use Rattle.std.proofs.Common.{ℕ, ◌/◌, ◌%◌, ◌^◌, ◌<◌, ◌≤◌, arith, FitsSigned, IfSome, lit<, lit≤}
use Rattle.std.specs.Int.{w16, w32, cast_signed}
use Rattle.std.proofs.Math.Facts.{sfits_lit, sfits_to_z, Fits-of_lt}
use Rattle.bpf_parts.specs.declared.operation.Width.{Width}
use Rattle.bpf_parts.specs.declared.operation.Width.TheVariants.{Bits32, Bits64}
use Rattle.bpf_parts.specs.declared.operation.AluOp.{AluOp}
use Rattle.bpf_parts.specs.declared.operation.AluOp.TheVariants.{Add}
use Rattle.bpf_parts.specs.declared.operation.Operand.{Operand}
use Rattle.bpf_parts.specs.declared.operation.Operand.TheVariants.{FromRegister, Immediate}
use Rattle.bpf_parts.specs.declared.operation.Extension.{Extension}
use Rattle.bpf_parts.specs.declared.operation.Extension.TheVariants.{ByteTo32}
use Rattle.bpf_parts.specs.declared.operation.Swap.{Swap}
use Rattle.bpf_parts.specs.declared.operation.Swap.TheVariants.{ToLittle}
use Rattle.bpf_parts.specs.declared.operation.SwapBits.{SwapBits}
use Rattle.bpf_parts.specs.declared.operation.SwapBits.TheVariants.{Swap16}
use Rattle.bpf_parts.specs.declared.operation.Condition.{Condition}
use Rattle.bpf_parts.specs.declared.operation.Condition.TheVariants.{Equal}
use Rattle.bpf_parts.specs.declared.memory.Size.{Size}
use Rattle.bpf_parts.specs.declared.memory.Size.TheVariants.{Byte}
use Rattle.bpf_parts.specs.declared.memory.LoadSize.{LoadSize}
use Rattle.bpf_parts.specs.declared.memory.LoadSize.TheVariants.{LoadByte}
use Rattle.bpf_parts.specs.declared.distance.Distance.TheVariants.{Short, Long}
use Rattle.bpf_parts.specs.declared.address.Address.{Address}
use Rattle.bpf_parts.specs.declared.address.Address.TheVariants.{MapByFile}
use Rattle.bpf_parts.specs.declared.callee.Callee.{Callee}
use Rattle.bpf_parts.specs.declared.callee.Callee.TheVariants.{Helper}
use Rattle.bpf_insn.specs.declared.insn.Insn.{Insn}
use Rattle.bpf_insn.specs.declared.insn.Insn.TheVariants.{Alu, Negate, MoveSigned, ByteSwap, Load, Store, Jump, Goto, Wide, LoadMap, LoadAddress, Call, Exit}
use Rattle.bpf_parts.specs.Codes.{arithmetic_class, jump_class, alu_code, alu_offset, source_bit, source_field, immediate_field, extension_bits, extension_width, swap_width, swap_source, swap_bits, condition_code, size_code, load_code, store_class, address_subtype, callee_code}
use Rattle.bpf_insn.specs.Spelling.{first_fields, second_immediate, IsInsn, FieldsFit}
use Rattle.bpf_parts.specs.Operands.{IsOperand}

arithmetic_class_small : (w : Width) → arithmetic_class w < 8
arithmetic_class_small Bits32 = lit< tt
arithmetic_class_small Bits64 = lit< tt

jump_class_small : (w : Width) → jump_class w < 8
jump_class_small Bits32 = lit< tt
jump_class_small Bits64 = lit< tt

alu_code_small : (op : AluOp) → alu_code op < 13
alu_code_small Add = lit< tt
alu_code_small _ = lit< tt

alu_offset_fits : (op : AluOp) → FitsSigned w16 (alu_offset op)
alu_offset_fits Add = sfits_lit tt
alu_offset_fits _ = sfits_lit tt

source_bit_small : (s : Operand) → source_bit s ≤ 8
source_bit_small (FromRegister r) = lit≤ tt
source_bit_small (Immediate v) = lit≤ tt

source_field_small : (s : Operand) → IsOperand s → source_field s < 16
source_field_small (FromRegister r) h = omega (arith, h)
source_field_small (Immediate v) h = lit< tt

immediate_field_fits : (s : Operand) → IsOperand s → FitsSigned w32 (immediate_field s)
immediate_field_fits (FromRegister r) h = sfits_lit tt
immediate_field_fits (Immediate v) h = h

extension_bits_fit : (e : Extension) → FitsSigned w16 (extension_bits e)
extension_bits_fit ByteTo32 = sfits_lit tt
extension_bits_fit _ = sfits_lit tt

swap_source_small : (s : Swap) → swap_source s ≤ 8
swap_source_small ToLittle = lit≤ tt
swap_source_small _ = lit≤ tt

swap_bits_fit : (b : SwapBits) → FitsSigned w32 (swap_bits b)
swap_bits_fit Swap16 = sfits_lit tt
swap_bits_fit _ = sfits_lit tt

condition_code_small : (c : Condition) → condition_code c < 14
condition_code_small Equal = lit< tt
condition_code_small _ = lit< tt

size_code_small : (s : Size) → size_code s < 128
size_code_small Byte = lit< tt
size_code_small _ = lit< tt

load_code_small : (s : LoadSize) → load_code s < 160
load_code_small LoadByte = lit< tt
load_code_small _ = lit< tt

store_class_small : (s : Operand) → store_class s < 8
store_class_small (FromRegister r) = lit< tt
store_class_small (Immediate v) = lit< tt

address_subtype_small : (a : Address) → address_subtype a < 16
address_subtype_small (MapByFile first) = lit< tt
address_subtype_small _ = lit< tt

callee_code_small : (c : Callee) → callee_code c < 16
callee_code_small Helper = lit< tt
callee_code_small _ = lit< tt

half_fits : (n : ℕ) → n < 2 ^ 32 → FitsSigned w32 (cast_signed w32 n)
half_fits n h = sfits_to_z (Fits-of_lt h)

pub fields_fit : (i : Insn) → IsInsn i → FieldsFit (first_fields i)
fields_fit (Alu op width dst src) h =
    record {
      opcode = omega (arith, arithmetic_class_small width, source_bit_small src, alu_code_small op);
      dst = omega (arith, h.0);
      src = source_field_small src h.1;
      offset = alu_offset_fits op;
      immediate = immediate_field_fits src h.1;
    }
fields_fit (Negate width dst) h =
    record {
      opcode = omega (arith, arithmetic_class_small width);
      dst = omega (arith, h);
      src = lit< tt;
      offset = sfits_lit tt;
      immediate = sfits_lit tt;
    }
fields_fit (MoveSigned extension dst src) h =
    record {
      opcode = omega (arith, arithmetic_class_small (extension_width extension));
      dst = omega (arith, h.0);
      src = omega (arith, h.1);
      offset = extension_bits_fit extension;
      immediate = sfits_lit tt;
    }
fields_fit (ByteSwap swap bits dst) h =
    record {
      opcode = omega (arith, arithmetic_class_small (swap_width swap), swap_source_small swap);
      dst = omega (arith, h);
      src = lit< tt;
      offset = sfits_lit tt;
      immediate = swap_bits_fit bits;
    }
fields_fit (Load size dst place) h =
    record {
      opcode = omega (arith, load_code_small size);
      dst = omega (arith, h.0);
      src = omega (arith, h.1);
      offset = h.2;
      immediate = sfits_lit tt;
    }
fields_fit (Store size place src) h =
    record {
      opcode = omega (arith, store_class_small src, size_code_small size);
      dst = omega (arith, h.0);
      src = source_field_small src h.2;
      offset = h.1;
      immediate = immediate_field_fits src h.2;
    }
fields_fit (Jump comparison offset) h =
    record {
      opcode = omega (arith, jump_class_small comparison.width, source_bit_small comparison.src, condition_code_small comparison.condition);
      dst = omega (arith, h.0);
      src = source_field_small comparison.src h.1;
      offset = h.2;
      immediate = immediate_field_fits comparison.src h.1;
    }
fields_fit (Goto (Short offset)) h =
    record { opcode = lit< tt; dst = lit< tt; src = lit< tt; offset = h; immediate = sfits_lit tt }
fields_fit (Goto (Long distance)) h =
    record { opcode = lit< tt; dst = lit< tt; src = lit< tt; offset = sfits_lit tt; immediate = h }
fields_fit (Wide dst value) h =
    record {
      opcode = lit< tt;
      dst = omega (arith, h.0);
      src = lit< tt;
      offset = sfits_lit tt;
      immediate = half_fits (value % 2 ^ 32) (omega arith);
    }
fields_fit (LoadMap dst index) h =
    record { opcode = lit< tt; dst = omega (arith, h.0); src = lit< tt; offset = sfits_lit tt; immediate = h.1 }
fields_fit (LoadAddress dst address) h =
    record { opcode = lit< tt; dst = omega (arith, h.0); src = address_subtype_small address; offset = sfits_lit tt; immediate = h.1 }
fields_fit (Call callee number) h =
    record { opcode = lit< tt; dst = lit< tt; src = callee_code_small callee; offset = sfits_lit tt; immediate = h }
fields_fit Exit h =
    record { opcode = lit< tt; dst = lit< tt; src = lit< tt; offset = sfits_lit tt; immediate = sfits_lit tt }

-- and so does the immediate of a second slot
pub second_fits : (i : Insn) → IsInsn i → IfSome (second_immediate i) (λ z. FitsSigned w32 z)
second_fits (Wide dst value) h = half_fits (value / 2 ^ 32) (omega (arith, h.1))
second_fits (LoadMap dst index) h = sfits_lit tt
second_fits (LoadAddress dst address) h = h.2
second_fits _ h = tt
