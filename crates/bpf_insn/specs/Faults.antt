-- Why bytes spell no instruction.
use Rattle.std.specs.Prelude.{◌≡◌, ◌≢◌, ℕ, ◌/◌, ◌%◌, Bool, true, false, ◌&&◌, ◌||◌, not, nat_le, IsTrue, IsFalse}
use Rattle.std.specs.Prelude.{List, slice_index, Option, None, IsSome, ◌==◌, if◌then◌else◌, Some}
use Rattle.bpf_parts.specs.declared.operation.Operand.{Operand}
use Rattle.bpf_parts.specs.declared.operation.Operand.TheVariants.{FromRegister, Immediate}
use Rattle.bpf_insn.specs.declared.insn.Insn.{Insn}
use Rattle.bpf_insn.specs.declared.insn.Insn.TheVariants.{Alu, Negate, MoveSigned, ByteSwap, Load, Store, Jump, Goto}
use Rattle.bpf_insn.specs.declared.insn.Insn.TheVariants.{Wide, LoadMap, LoadAddress, Call, Exit}
use Rattle.bpf_insn.specs.declared.decoder.BadInsn.{BadInsn}
use Rattle.bpf_insn.specs.declared.decoder.BadInsn.TheVariants as faults
use Rattle.bpf_insn.specs.Spelling.{first_fields, second_immediate, Spells}

-- the number of a fault
abbrev pub bad_insn_code : BadInsn → ℕ
bad_insn_code faults.Opcode = 1
bad_insn_code faults.Register = 2
bad_insn_code faults.Unused = 3
bad_insn_code faults.Half = 4

-- the fault of a number, if it is the number of one
abbrev pub bad_insn_of_code : ℕ → Option BadInsn
bad_insn_of_code code =
    if code == 1 then Some faults.Opcode
    else (if code == 2 then Some faults.Register
    else (if code == 3 then Some faults.Unused
    else (if code == 4 then Some faults.Half
    else None)))

-- the first byte of an instruction (section 3.1)
abbrev pub opcode_of : Insn → ℕ
opcode_of insn = (first_fields insn).opcode

-- whether the instruction has a destination or base register in the destination field (sections 4 and 5)
abbrev pub uses_dst : Insn → Bool
uses_dst (Goto distance) = false
uses_dst (Call callee number) = false
uses_dst Exit = false
uses_dst (Alu op width dst src) = true
uses_dst (Negate width dst) = true
uses_dst (MoveSigned extension dst src) = true
uses_dst (ByteSwap swap bits dst) = true
uses_dst (Load size dst place) = true
uses_dst (Store size place src) = true
uses_dst (Jump comparison offset) = true
uses_dst (Wide dst value) = true
uses_dst (LoadMap dst index) = true
uses_dst (LoadAddress dst address) = true

-- whether an operand is a register
abbrev pub is_register_operand : Operand → Bool
is_register_operand (FromRegister register) = true
is_register_operand (Immediate value) = false

-- whether it has a source or base register in the source field
abbrev pub uses_src : Insn → Bool
uses_src (Alu op width dst src) = is_register_operand src
uses_src (MoveSigned extension dst src) = true
uses_src (Load size dst place) = true
uses_src (Store size place src) = is_register_operand src
uses_src (Jump comparison offset) = is_register_operand comparison.src
uses_src (Negate width dst) = false
uses_src (ByteSwap swap bits dst) = false
uses_src (Goto distance) = false
uses_src (Wide dst value) = false
uses_src (LoadMap dst index) = false
uses_src (LoadAddress dst address) = false
uses_src (Call callee number) = false
uses_src Exit = false

-- whether a register field that the instruction uses is over 10
abbrev pub has_register_over : Insn → (dst src : ℕ) → Bool
has_register_over insn dst src = (uses_dst insn && not (nat_le dst 10)) || (uses_src insn && not (nat_le src 10))

-- whether a register that the instruction uses is over 10 in the bytes of its slot
abbrev pub spells_register_over : Insn → List ℕ → Bool
spells_register_over insn bytes = has_register_over insn (slice_index bytes 1 % 16) (slice_index bytes 1 / 16)

-- What the first fault of bytes says of them. `Opcode`: no instruction has the opcode. `Register`: one has it, and a
-- register that it uses is over 10. `Half`: neither, and the instruction has a second slot, which is missing.
-- `Unused`: none of these, and no instruction has these bytes.
abbrev pub IsFault : List ℕ → Option (List ℕ) → BadInsn → Type 0
IsFault bytes next faults.Opcode = (insn : Insn) → opcode_of insn ≢ slice_index bytes 0
IsFault bytes next faults.Register =
    (insn : Insn) × (opcode_of insn ≡ slice_index bytes 0) × IsTrue (spells_register_over insn bytes)
IsFault bytes next faults.Half =
    (insn : Insn) × (opcode_of insn ≡ slice_index bytes 0) × IsFalse (spells_register_over insn bytes)
    × IsSome (second_immediate insn) × (next ≡ None)
IsFault bytes next faults.Unused =
    (insn : Insn) × (opcode_of insn ≡ slice_index bytes 0) × IsFalse (spells_register_over insn bytes)
    × (IsSome (second_immediate insn) → IsSome next) × ((spelled : Insn) → Spells bytes next spelled → ⊥)
