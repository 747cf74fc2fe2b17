-- The fields of an instruction mean that instruction.
use Rattle.std.proofs.Common.{◌≡◌, ℕ, ◌/◌, ◌%◌, ◌^◌, ◌<◌, ◌≤◌, ℤ, true, Option, Some, Ok, refl, ap, arith, IfSome, nat_le}
use Rattle.std.proofs.lemmas.Bool.Decides.{nat_tests}
use Rattle.std.specs.Int.{w32, cast_signed}
use Rattle.std.proofs.lemmas.Int.{of_z-to_z}
use Rattle.bpf_parts.specs.declared.operation.Width.{Width}
use Rattle.bpf_parts.specs.declared.operation.Width.TheVariants.{Bits32, Bits64}
use Rattle.bpf_parts.specs.declared.operation.AluOp.{AluOp}
use Rattle.bpf_parts.specs.declared.operation.AluOp.TheVariants.{Add}
use Rattle.bpf_parts.specs.declared.operation.Operand.{Operand}
use Rattle.bpf_parts.specs.declared.operation.Operand.TheVariants.{FromRegister, Immediate}
use Rattle.bpf_parts.specs.declared.operation.Extension.{Extension}
use Rattle.bpf_parts.specs.declared.operation.Extension.TheVariants.{ByteTo32, HalfTo32, ByteTo64, HalfTo64, WordTo64}
use Rattle.bpf_parts.specs.declared.operation.Swap.{Swap}
use Rattle.bpf_parts.specs.declared.operation.Swap.TheVariants.{ToLittle, ToBig, Reverse}
use Rattle.bpf_parts.specs.declared.operation.SwapBits.{SwapBits}
use Rattle.bpf_parts.specs.declared.operation.SwapBits.TheVariants.{Swap16}
use Rattle.bpf_parts.specs.declared.operation.Condition.{Condition}
use Rattle.bpf_parts.specs.declared.operation.Condition.TheVariants.{Equal}
use Rattle.bpf_parts.specs.declared.memory.MemoryOperand.{MemoryOperand}
use Rattle.bpf_parts.specs.declared.memory.Size.{Size}
use Rattle.bpf_parts.specs.declared.memory.Size.TheVariants.{Byte}
use Rattle.bpf_parts.specs.declared.memory.LoadSize.{LoadSize}
use Rattle.bpf_parts.specs.declared.memory.LoadSize.TheVariants.{LoadByte}
use Rattle.bpf_parts.specs.declared.distance.Distance.TheVariants.{Short, Long}
use Rattle.bpf_parts.specs.declared.address.Address.{Address}
use Rattle.bpf_parts.specs.declared.address.Address.TheVariants.{MapByFile, MapValueByFile, Variable, Code, MapValueByIndex}
use Rattle.bpf_parts.specs.declared.callee.Callee.{Callee}
use Rattle.bpf_parts.specs.declared.callee.Callee.TheVariants.{Helper, Local, ByTypeId}
use Rattle.bpf_insn.specs.declared.insn.Insn.{Insn}
use Rattle.bpf_insn.specs.declared.insn.Insn.TheVariants.{Alu, Negate, MoveSigned, ByteSwap, Load, Store, Jump, Goto, Wide, LoadMap, LoadAddress, Call, Exit}
use Rattle.bpf_insn.specs.declared.fields.Fields.{Fields}
use Rattle.bpf_insn.specs.Spelling.{first_fields, second_immediate, second_fields, IsInsn}
use Rattle.bpf_parts.specs.Operands.{IsOperand}
use Rattle.bpf_insn.specs.Reading.{meant_of, wide_of, pair_of, load_of, store_of, arithmetic_of, negation_of, byte_swap_of, two_operands_of, move_of, jump_of, call_of, branch_of, comparison_of, constant_of}

-- a register's number passes the test
number_passes : (n : ℕ) → n ≤ 10 → nat_le n 10 ≡ true
number_passes n h = grind (arith, nat_tests)

alu_k : (op : AluOp) (width : Width) (dst : ℕ) (value : ℤ) (next : Option Fields) → nat_le dst 10 ≡ true → meant_of (first_fields (Alu op width dst (Immediate value))) next ≡ Ok (Alu op width dst (Immediate value))
unfolding meant_of arithmetic_of two_operands_of move_of
alu_k Add Bits32 dst value next p = rw p refl
alu_k Add Bits64 dst value next p = rw p refl
alu_k _ Bits32 dst value next p = rw p refl
alu_k _ Bits64 dst value next p = rw p refl

alu_x : (op : AluOp) (width : Width) (dst src : ℕ) (next : Option Fields) → nat_le dst 10 ≡ true → nat_le src 10 ≡ true → meant_of (first_fields (Alu op width dst (FromRegister src))) next ≡ Ok (Alu op width dst (FromRegister src))
unfolding meant_of arithmetic_of two_operands_of move_of
alu_x Add Bits32 dst src next p q = rw p (rw q refl)
alu_x Add Bits64 dst src next p q = rw p (rw q refl)
alu_x _ Bits32 dst src next p q = rw p (rw q refl)
alu_x _ Bits64 dst src next p q = rw p (rw q refl)

negated : (width : Width) (dst : ℕ) (next : Option Fields) → nat_le dst 10 ≡ true → meant_of (first_fields (Negate width dst)) next ≡ Ok (Negate width dst)
unfolding meant_of arithmetic_of negation_of
negated Bits32 dst next p = rw p refl
negated Bits64 dst next p = rw p refl

extended : (extension : Extension) (dst src : ℕ) (next : Option Fields) → nat_le dst 10 ≡ true → nat_le src 10 ≡ true → meant_of (first_fields (MoveSigned extension dst src)) next ≡ Ok (MoveSigned extension dst src)
unfolding meant_of arithmetic_of move_of
extended ByteTo32 dst src next p q = rw p (rw q refl)
extended HalfTo32 dst src next p q = rw p (rw q refl)
extended ByteTo64 dst src next p q = rw p (rw q refl)
extended HalfTo64 dst src next p q = rw p (rw q refl)
extended WordTo64 dst src next p q = rw p (rw q refl)

swapped : (swap : Swap) (bits : SwapBits) (dst : ℕ) (next : Option Fields) → nat_le dst 10 ≡ true → meant_of (first_fields (ByteSwap swap bits dst)) next ≡ Ok (ByteSwap swap bits dst)
unfolding meant_of arithmetic_of byte_swap_of
swapped ToLittle Swap16 dst next p = rw p refl
swapped ToLittle _ dst next p = rw p refl
swapped ToBig Swap16 dst next p = rw p refl
swapped ToBig _ dst next p = rw p refl
swapped Reverse Swap16 dst next p = rw p refl
swapped Reverse _ dst next p = rw p refl

loaded : (size : LoadSize) (dst : ℕ) (place : MemoryOperand) (next : Option Fields) → nat_le dst 10 ≡ true → nat_le place.base 10 ≡ true → meant_of (first_fields (Load size dst place)) next ≡ Ok (Load size dst place)
unfolding meant_of load_of
loaded LoadByte dst place next p q = rw p (rw q refl)
loaded _ dst place next p q = rw p (rw q refl)

stored_k : (size : Size) (place : MemoryOperand) (value : ℤ) (next : Option Fields) → nat_le place.base 10 ≡ true → meant_of (first_fields (Store size place (Immediate value))) next ≡ Ok (Store size place (Immediate value))
unfolding meant_of store_of
stored_k Byte place value next p = rw p refl
stored_k _ place value next p = rw p refl

stored_x : (size : Size) (place : MemoryOperand) (src : ℕ) (next : Option Fields) → nat_le place.base 10 ≡ true → nat_le src 10 ≡ true → meant_of (first_fields (Store size place (FromRegister src))) next ≡ Ok (Store size place (FromRegister src))
unfolding meant_of store_of
stored_x Byte place src next p q = rw p (rw q refl)
stored_x _ place src next p q = rw p (rw q refl)

jumped_k : (condition : Condition) (width : Width) (dst : ℕ) (value offset : ℤ) (next : Option Fields) → nat_le dst 10 ≡ true → meant_of (first_fields (Jump (comparison_of condition width dst (Immediate value)) offset)) next ≡ Ok (Jump (comparison_of condition width dst (Immediate value)) offset)
unfolding meant_of jump_of branch_of
jumped_k Equal Bits32 dst value offset next p = rw p refl
jumped_k Equal Bits64 dst value offset next p = rw p refl
jumped_k _ Bits32 dst value offset next p = rw p refl
jumped_k _ Bits64 dst value offset next p = rw p refl

jumped_x : (condition : Condition) (width : Width) (dst src : ℕ) (offset : ℤ) (next : Option Fields) → nat_le dst 10 ≡ true → nat_le src 10 ≡ true → meant_of (first_fields (Jump (comparison_of condition width dst (FromRegister src)) offset)) next ≡ Ok (Jump (comparison_of condition width dst (FromRegister src)) offset)
unfolding meant_of jump_of branch_of
jumped_x Equal Bits32 dst src offset next p q = rw p (rw q refl)
jumped_x Equal Bits64 dst src offset next p q = rw p (rw q refl)
jumped_x _ Bits32 dst src offset next p q = rw p (rw q refl)
jumped_x _ Bits64 dst src offset next p q = rw p (rw q refl)

jumped : (condition : Condition) (width : Width) (dst : ℕ) (src : Operand) (offset : ℤ) (next : Option Fields) → nat_le dst 10 ≡ true → IsOperand src → meant_of (first_fields (Jump (comparison_of condition width dst src) offset)) next ≡ Ok (Jump (comparison_of condition width dst src) offset)
jumped condition width dst (Immediate value) offset next p q = jumped_k condition width dst value offset next p
jumped condition width dst (FromRegister src) offset next p q = jumped_x condition width dst src offset next p (number_passes src q)

halves : (value : ℕ) → value < 2 ^ 64 → constant_of (cast_signed w32 (value % 2 ^ 32)) (cast_signed w32 (value / 2 ^ 32)) ≡ value
halves value h =
    rw (of_z-to_z w32 (value % 2 ^ 32) (omega arith), of_z-to_z w32 (value / 2 ^ 32) (omega arith)) (omega arith)

widened : (dst value : ℕ) → nat_le dst 10 ≡ true → value < 2 ^ 64 → meant_of (first_fields (Wide dst value)) (second_fields (second_immediate (Wide dst value))) ≡ Ok (Wide dst value)
unfolding meant_of wide_of pair_of
widened dst value p h = rw p (ap (λ (n : ℕ). Ok (Wide dst n)) (halves value h))

mapped : (dst : ℕ) (index : ℤ) → nat_le dst 10 ≡ true → meant_of (first_fields (LoadMap dst index)) (second_fields (second_immediate (LoadMap dst index))) ≡ Ok (LoadMap dst index)
unfolding meant_of wide_of pair_of
mapped dst index p = rw p refl

addressed : (dst : ℕ) (address : Address) → nat_le dst 10 ≡ true → meant_of (first_fields (LoadAddress dst address)) (second_fields (second_immediate (LoadAddress dst address))) ≡ Ok (LoadAddress dst address)
unfolding meant_of wide_of pair_of
addressed dst (MapByFile first) p = rw p refl
addressed dst (MapValueByFile first second) p = rw p refl
addressed dst (Variable first) p = rw p refl
addressed dst (Code first) p = rw p refl
addressed dst (MapValueByIndex first second) p = rw p refl

called : (callee : Callee) (number : ℤ) (next : Option Fields) → meant_of (first_fields (Call callee number)) next ≡ Ok (Call callee number)
unfolding meant_of jump_of call_of
called Helper number next = refl
called Local number next = refl
called ByTypeId number next = refl

-- the fields of an instruction mean it, whatever follows one of one slot
pub means : (i : Insn) (next : Option Fields) → IsInsn i → IfSome (second_fields (second_immediate i)) (λ s. next ≡ Some s) → meant_of (first_fields i) next ≡ Ok i
unfolding meant_of jump_of
means (Alu op width dst (Immediate value)) next h s = alu_k op width dst value next (number_passes dst h.0)
means (Alu op width dst (FromRegister src)) next h s = alu_x op width dst src next (number_passes dst h.0) (number_passes src h.1)
means (Negate width dst) next h s = negated width dst next (number_passes dst h)
means (MoveSigned extension dst src) next h s = extended extension dst src next (number_passes dst h.0) (number_passes src h.1)
means (ByteSwap swap bits dst) next h s = swapped swap bits dst next (number_passes dst h)
means (Load size dst place) next h s = loaded size dst place next (number_passes dst h.0) (number_passes place.base h.1)
means (Store size place (Immediate value)) next h s = stored_k size place value next (number_passes place.base h.0)
means (Store size place (FromRegister src)) next h s = stored_x size place src next (number_passes place.base h.0) (number_passes src h.2)
means (Jump comparison offset) next h s =
    jumped comparison.condition comparison.width comparison.dst comparison.src offset next (number_passes comparison.dst h.0) h.1
means (Goto (Short offset)) next h s = refl
means (Goto (Long distance)) next h s = refl
means (Wide dst value) next h s = rw s (widened dst value (number_passes dst h.0) h.1)
means (LoadMap dst index) next h s = rw s (mapped dst index (number_passes dst h.0))
means (LoadAddress dst address) next h s = rw s (addressed dst address (number_passes dst h.0))
means (Call callee number) next h s = called callee number next
means Exit next h s = refl
