-- How bytes are read: the fields, what the used fields mean, and whether an instruction that means so has these
-- bytes.
use Rattle.std.specs.Prelude.{ℕ, ◌+◌, ◌-◌, ◌*◌, ◌/◌, ◌%◌, ℤ, pos, Bool, true, false, ◌&&◌, ◌==◌, nat_le}
use Rattle.std.specs.Prelude.{if◌then◌else◌, List, slice_index, Option, Some, None, Result, Ok, Err}
use Rattle.std.specs.Int.{w16, w32, cast_signed, cast_unsigned}
use Rattle.std.specs.Option.{ok_or, option_map}
use Rattle.std.specs.Ordering.{int_eq}
use Rattle.bpf_parts.specs.declared.operation.Width.{Width}
use Rattle.bpf_parts.specs.declared.operation.Width.TheVariants.{Bits32, Bits64}
use Rattle.bpf_parts.specs.declared.operation.AluOp.TheVariants.{Mov}
use Rattle.bpf_parts.specs.declared.operation.Comparison.{Comparison}
use Rattle.bpf_parts.specs.declared.operation.Condition.{Condition}
use Rattle.bpf_parts.specs.declared.operation.Operand.{Operand}
use Rattle.bpf_parts.specs.declared.operation.Operand.TheVariants.{FromRegister, Immediate}
use Rattle.bpf_parts.specs.declared.operation.Extension.{Extension}
use Rattle.bpf_parts.specs.declared.distance.Distance.TheVariants.{Short, Long}
use Rattle.bpf_insn.specs.declared.insn.Insn.{Insn}
use Rattle.bpf_insn.specs.declared.insn.Insn.TheVariants.{Alu, Negate, MoveSigned, ByteSwap, Load, Store, Jump, Goto}
use Rattle.bpf_insn.specs.declared.insn.Insn.TheVariants.{Wide, LoadMap, LoadAddress, Call, Exit}
use Rattle.bpf_insn.specs.declared.fields.Fields.{Fields}
use Rattle.bpf_insn.specs.declared.decoder.BadInsn.{BadInsn}
use Rattle.bpf_insn.specs.declared.decoder.BadInsn.TheVariants as faults
use Rattle.bpf_parts.specs.Kinds.{alu_of, extension_of, swap_of, swap_bits_of, condition_of, size_of, load_size_of}
use Rattle.bpf_parts.specs.Kinds.{wide_address, callee_of}
use Rattle.bpf_insn.specs.Spelling.{fields, first_fields, second_immediate}

-- the next step of a reading, unless a fault was found
infixl 10 ◌>>=◌
abbrev pub ◌>>=◌ : {A B : Type 0} → Result A BadInsn → (A → Result B BadInsn) → Result B BadInsn
(Ok x) >>= f = f x
(Err e) >>= f = Err e

-- the fields that a slot's bytes hold (section 3.1)
abbrev pub fields_in : List ℕ → Fields
fields_in bytes =
    fields (slice_index bytes 0) (slice_index bytes 1 % 16) (slice_index bytes 1 / 16)
    (cast_signed w16 (slice_index bytes 2 + slice_index bytes 3 * 256))
    (cast_signed w32 (slice_index bytes 4 + slice_index bytes 5 * 256 + slice_index bytes 6 * 65536
    + slice_index bytes 7 * 16777216))

-- a register, or the fault of a number over 10
abbrev pub register_of : ℕ → Result ℕ BadInsn
register_of number = if nat_le number 10 then Ok number else Err faults.Register

-- whether the source bit of arithmetic and jumps names a register
abbrev pub names_register : Fields → Bool
names_register f = f.opcode / 8 % 2 == 1

-- the source operand: the register, or else the immediate
abbrev pub operand_of : Fields → Bool → Result Operand BadInsn
operand_of f true = register_of f.src >>= (λ src. Ok (FromRegister src))
operand_of f false = Ok (Immediate f.immediate)

-- NEG, which has no source register
unfoldable pub negation_of : Fields → Width → Result Insn BadInsn
negation_of f width =
    if names_register f then Err faults.Opcode else (register_of f.dst >>= (λ dst. Ok (Negate width dst)))

-- END: the byte order of class and source bit, the width in the immediate
unfoldable pub byte_swap_of : Fields → Width → Result Insn BadInsn
byte_swap_of f width =
    ok_or (swap_of width (names_register f)) faults.Opcode >>= (λ swap.
    register_of f.dst >>= (λ dst.
    ok_or (swap_bits_of f.immediate) faults.Unused >>= (λ bits.
    Ok (ByteSwap swap bits dst))))

-- arithmetic on two operands
unfoldable pub two_operands_of : Fields → Width → ℕ → Result Insn BadInsn
two_operands_of f width code =
    ok_or (alu_of code (int_eq f.offset (pos 1))) faults.Opcode >>= (λ op.
    register_of f.dst >>= (λ dst.
    operand_of f (names_register f) >>= (λ src.
    Ok (Alu op width dst src))))

-- a move from a register, sign-extending if there is an extension
abbrev pub register_move : Width → ℕ → ℕ → Option Extension → Insn
register_move width dst src None = Alu Mov width dst (FromRegister src)
register_move width dst src (Some extension) = MoveSigned extension dst src

-- MOV; if a register is moved at an offset, MOVSX
unfoldable pub move_of : Fields → Width → Result Insn BadInsn
move_of f width =
    register_of f.dst >>= (λ dst.
    if names_register f
    then (register_of f.src >>= (λ src. Ok (register_move width dst src (extension_of width f.offset))))
    else Ok (Alu Mov width dst (Immediate f.immediate)))

-- an instruction of the classes ALU and ALU64, by its code
unfoldable pub arithmetic_of : Fields → Width → Result Insn BadInsn
arithmetic_of f width =
    if f.opcode / 16 == 8 then negation_of f width
    else (if f.opcode / 16 == 11 then move_of f width
    else (if f.opcode / 16 == 13 then byte_swap_of f width
    else two_operands_of f width (f.opcode / 16)))

-- CALL, with what its source field names
unfoldable pub call_of : Fields → Result Insn BadInsn
call_of f = ok_or (callee_of f.src) faults.Unused >>= (λ callee. Ok (Call callee f.immediate))

-- what a conditional jump tests
abbrev pub comparison_of : Condition → Width → ℕ → Operand → Comparison
comparison_of condition width dst src = record { condition = condition; width = width; dst = dst; src = src }

-- a conditional jump
unfoldable pub branch_of : Fields → Width → Result Insn BadInsn
branch_of f width =
    ok_or (condition_of (f.opcode / 16)) faults.Opcode >>= (λ condition.
    register_of f.dst >>= (λ dst.
    operand_of f (names_register f) >>= (λ src.
    Ok (Jump (comparison_of condition width dst src) f.offset))))

-- an instruction of the classes JMP and JMP32, by its opcode
unfoldable pub jump_of : Fields → Width → Result Insn BadInsn
jump_of f width =
    if f.opcode == 0x05 then Ok (Goto (Short f.offset))
    else (if f.opcode == 0x06 then Ok (Goto (Long f.immediate))
    else (if f.opcode == 0x85 then call_of f
    else (if f.opcode == 0x95 then Ok Exit
    else branch_of f width)))

-- an instruction of the class LDX
unfoldable pub load_of : Fields → Result Insn BadInsn
load_of f =
    ok_or (load_size_of (f.opcode - f.opcode % 8)) faults.Opcode >>= (λ size.
    register_of f.dst >>= (λ dst.
    register_of f.src >>= (λ base.
    Ok (Load size dst (record { base = base; offset = f.offset })))))

-- an instruction of the classes ST and STX
unfoldable pub store_of : Fields → Bool → Result Insn BadInsn
store_of f from_register =
    ok_or (size_of (f.opcode - f.opcode % 8)) faults.Opcode >>= (λ size.
    register_of f.dst >>= (λ base.
    operand_of f from_register >>= (λ src.
    Ok (Store size (record { base = base; offset = f.offset }) src))))

-- the constant of two halves
abbrev pub constant_of : ℤ → ℤ → ℕ
constant_of low high = cast_unsigned w32 low + cast_unsigned w32 high * 4294967296

-- the 64-bit immediate instruction of two slots, by its subtype (section 5.4)
unfoldable pub pair_of : Fields → ℕ → Fields → Result Insn BadInsn
pair_of f dst second =
    if f.src == 0 then Ok (Wide dst (constant_of f.immediate second.immediate))
    else (if f.src == 5 then Ok (LoadMap dst f.immediate)
    else (ok_or (wide_address f.src f.immediate second.immediate) faults.Unused >>=
    (λ address. Ok (LoadAddress dst address))))

-- an instruction of the class LD: only the one of two slots, if the next slot is there
unfoldable pub wide_of : Fields → Option Fields → Result Insn BadInsn
wide_of f next =
    if f.opcode == 0x18
    then (register_of f.dst >>= (λ dst. ok_or next faults.Half >>= (λ second. pair_of f dst second)))
    else Err faults.Opcode

-- the instruction that the used fields mean, by the opcode's class (section 3)
unfoldable pub meant_of : Fields → Option Fields → Result Insn BadInsn
meant_of f next =
    if f.opcode % 8 == 0 then wide_of f next
    else (if f.opcode % 8 == 1 then load_of f
    else (if f.opcode % 8 == 2 then store_of f false
    else (if f.opcode % 8 == 3 then store_of f true
    else (if f.opcode % 8 == 4 then arithmetic_of f Bits32
    else (if f.opcode % 8 == 5 then jump_of f Bits64
    else (if f.opcode % 8 == 6 then jump_of f Bits32
    else arithmetic_of f Bits64))))))

-- whether two slots have the same fields
abbrev pub same_fields : Fields → Fields → Bool
same_fields f g =
    f.opcode == g.opcode && f.dst == g.dst && f.src == g.src && int_eq f.offset g.offset
    && int_eq f.immediate g.immediate

-- the fields of the next slot, if there is one
abbrev pub next_fields : Option (List ℕ) → Option Fields
next_fields next = option_map fields_in next

-- whether the next slot is the second one of this immediate, if there is one
abbrev pub same_second : Option ℤ → Option Fields → Bool
same_second None next = true
same_second (Some immediate) None = false
same_second (Some immediate) (Some g) = same_fields g (fields 0 0 0 (pos 0) immediate)

-- whether an instruction has these fields
abbrev pub has_fields : Insn → Fields → Option Fields → Bool
has_fields insn f next = same_fields (first_fields insn) f && same_second (second_immediate insn) next

-- the instruction that has these fields, or the first fault
unfoldable pub reading_of : Fields → Option Fields → Result Insn BadInsn
reading_of f next = meant_of f next >>= (λ insn. if has_fields insn f next then Ok insn else Err faults.Unused)

-- the instruction that the bytes spell, or the first fault; the next slot is read only if it is wanted
unfoldable pub insn_reading : List ℕ → Option (List ℕ) → Result Insn BadInsn
insn_reading bytes next = reading_of (fields_in bytes) (next_fields next)
