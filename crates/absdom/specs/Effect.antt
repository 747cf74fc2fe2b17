-- What an instruction does to what is known, or why it is refused (a choice of this project). The verifier tests the
-- operands first, the destination before the source. Of each it tests whether it is set, and then its kind.
use Rattle.std.specs.Prelude.{◌≡◌, ℕ, ◌+◌, ◌-◌, ◌^◌, ◌/◌, Bool, true, ◌||◌, nat_lt, nat_le, if◌then◌else◌}
use Rattle.std.specs.Prelude.{ℤ, pos, negsuc, ◌+ℤ◌, ◌-ℤ◌, List, Option, Some, None, Result, Ok, Err}
use Rattle.bpf_parts.specs.declared.operation.Width.{Width}
use Rattle.bpf_parts.specs.declared.operation.Width.TheVariants.{Bits32, Bits64}
use Rattle.bpf_parts.specs.declared.operation.AluOp.{AluOp}
use Rattle.bpf_parts.specs.declared.operation.AluOp.TheVariants.{Add, Sub, Mul, Div, SignedDiv, Or, And, Lsh, Rsh}
use Rattle.bpf_parts.specs.declared.operation.AluOp.TheVariants.{Mod, SignedMod, Xor, Mov, Arsh}
use Rattle.bpf_parts.specs.declared.operation.Operand.{Operand}
use Rattle.bpf_parts.specs.declared.operation.Operand.TheVariants.{FromRegister, Immediate}
use Rattle.bpf_parts.specs.declared.memory.LoadSize.{LoadSize}
use Rattle.bpf_parts.specs.declared.memory.LoadSize.TheVariants.{LoadByte, LoadHalf, LoadWord, LoadDouble, SignedByte}
use Rattle.bpf_parts.specs.declared.memory.LoadSize.TheVariants.{SignedHalf, SignedWord}
use Rattle.bpf_insn.specs.declared.insn.Insn.{Insn}
use Rattle.bpf_insn.specs.declared.insn.Insn.TheVariants.{Alu, Negate, MoveSigned, ByteSwap, Load, Store, Jump, Goto}
use Rattle.bpf_insn.specs.declared.insn.Insn.TheVariants.{Wide, LoadMap, LoadAddress, Call, Exit}
use Rattle.machine.specs.declared.regions.Region.{Region}
use Rattle.machine.specs.declared.regions.Region.TheVariants.{Front, Tail, Stack}
use Rattle.machine.specs.Words.{word, signed_value}
use Rattle.bpf_parts.specs.Sizes.{size_bytes, load_bytes}
use Rattle.machine.specs.Memory.{region_place_of}
use Rattle.absdom_num.specs.declared.ranges.Range.{Range}
use Rattle.absdom_num.specs.Tables.{single_range, alu_range, negated_range, extended_range, swapped_range}
use Rattle.absdom.specs.declared.cause.Cause.{Cause}
use Rattle.absdom.specs.declared.cause.Cause.TheVariants.{UnsetOperand, KindMismatch, OutOfRegion, UnsetStack}
use Rattle.absdom.specs.declared.cause.Cause.TheVariants.{HeaderWrite, PointerRange}
use Rattle.absdom.specs.declared.kinds.AbsKind.{AbsKind}
use Rattle.absdom.specs.declared.kinds.AbsKind.TheVariants.{Unset, Num, Ptr, Map}
use Rattle.absdom.specs.Offsets.{offsets_within}
use Rattle.absdom.specs.Kinds.{number_of}
use Rattle.absdom.specs.State.{StateValue, kind_at, range_at, with_kind, with_stack}
use Rattle.absdom_stack.specs.Marks.{all_marked, stored_marks}
use Rattle.absdom_stack.specs.StackWords.{is_stack_word, stored_ranges}
use Rattle.absdom_stack.specs.declared.spill.Spill.{Spill}
use Rattle.absdom_stack.specs.declared.spill.Spill.TheVariants.{Forgets, Keeps}

-- ---- the statement

-- a register's kind, or the number of an immediate
abbrev pub operand_kind : StateValue → Operand → AbsKind
operand_kind a (FromRegister register) = kind_at a register
operand_kind a (Immediate value) = Num (single_range (word value))

-- ---- arithmetic (RFC 9669, section 4.1)

-- what an operation on two numbers gives, if both are numbers
abbrev pub binary_kind : AluOp → Width → Result Range Cause → Result Range Cause → Result AbsKind Cause
binary_kind op width (Err cause) b = Err cause
binary_kind op width (Ok a) (Err cause) = Err cause
binary_kind op width (Ok a) (Ok b) = Ok (Num (alu_range op width a b))

-- what an operation on one number gives, if it is a number
abbrev pub unary_kind : (Range → Range) → Result Range Cause → Result AbsKind Cause
unary_kind f (Err cause) = Err cause
unary_kind f (Ok a) = Ok (Num (f a))

-- MOV: in ALU64 it copies pointers and maps too
abbrev pub copied_kind : Width → AbsKind → Result AbsKind Cause
copied_kind width Unset = Err UnsetOperand
copied_kind width (Num a) = Ok (Num (alu_range Mov width a a))
copied_kind Bits32 (Ptr region offsets) = Err KindMismatch
copied_kind Bits64 (Ptr region offsets) = Ok (Ptr region offsets)
copied_kind Bits32 (Map index) = Err KindMismatch
copied_kind Bits64 (Map index) = Ok (Map index)

-- the ends of a range whose numbers, read as signed, have one sign
abbrev pub signed_ends : Range → Option (ℤ × ℤ)
signed_ends a =
    if nat_lt a.1 (2 ^ 63) || nat_le (2 ^ 63) a.0 then Some (signed_value Bits64 a.0, signed_value Bits64 a.1) else None

-- a pointer that was moved, within the limits of its offsets
abbrev pub pointer_kind : Region → Option (ℤ × ℤ) → Result AbsKind Cause
pointer_kind region None = Err PointerRange
pointer_kind region (Some offsets) = Ok (Ptr region offsets)

-- the offsets after a number in this range is added
abbrev pub offsets_up : ℤ × ℤ → Option (ℤ × ℤ) → Option (ℤ × ℤ)
offsets_up offsets None = None
offsets_up offsets (Some n) = offsets_within (offsets.0 +ℤ n.0) (offsets.1 +ℤ n.1)

-- the offsets after a number in this range is subtracted
abbrev pub offsets_down : ℤ × ℤ → Option (ℤ × ℤ) → Option (ℤ × ℤ)
offsets_down offsets None = None
offsets_down offsets (Some n) = offsets_within (offsets.0 -ℤ n.1) (offsets.1 -ℤ n.0)

-- a pointer plus a number
abbrev pub pointer_up : Region → ℤ × ℤ → Result Range Cause → Result AbsKind Cause
pointer_up region offsets (Err cause) = Err cause
pointer_up region offsets (Ok n) = pointer_kind region (offsets_up offsets (signed_ends n))

-- a pointer minus a number
abbrev pub pointer_down : Region → ℤ × ℤ → Result Range Cause → Result AbsKind Cause
pointer_down region offsets (Err cause) = Err cause
pointer_down region offsets (Ok n) = pointer_kind region (offsets_down offsets (signed_ends n))

-- ADD: in ALU64 it moves a pointer
abbrev pub sum_kind : Width → AbsKind → AbsKind → Result AbsKind Cause
sum_kind Bits32 a b = binary_kind Add Bits32 (number_of a) (number_of b)
sum_kind Bits64 Unset b = Err UnsetOperand
sum_kind Bits64 (Num a) b = binary_kind Add Bits64 (Ok a) (number_of b)
sum_kind Bits64 (Ptr region offsets) b = pointer_up region offsets (number_of b)
sum_kind Bits64 (Map index) b = Err KindMismatch

-- SUB: likewise
abbrev pub difference_kind : Width → AbsKind → AbsKind → Result AbsKind Cause
difference_kind Bits32 a b = binary_kind Sub Bits32 (number_of a) (number_of b)
difference_kind Bits64 Unset b = Err UnsetOperand
difference_kind Bits64 (Num a) b = binary_kind Sub Bits64 (Ok a) (number_of b)
difference_kind Bits64 (Ptr region offsets) b = pointer_down region offsets (number_of b)
difference_kind Bits64 (Map index) b = Err KindMismatch

-- what an operation on a destination and a source gives
abbrev pub alu_kind : AluOp → Width → AbsKind → AbsKind → Result AbsKind Cause
alu_kind Add width a b = sum_kind width a b
alu_kind Sub width a b = difference_kind width a b
alu_kind Mul width a b = binary_kind Mul width (number_of a) (number_of b)
alu_kind Div width a b = binary_kind Div width (number_of a) (number_of b)
alu_kind SignedDiv width a b = binary_kind SignedDiv width (number_of a) (number_of b)
alu_kind Or width a b = binary_kind Or width (number_of a) (number_of b)
alu_kind And width a b = binary_kind And width (number_of a) (number_of b)
alu_kind Lsh width a b = binary_kind Lsh width (number_of a) (number_of b)
alu_kind Rsh width a b = binary_kind Rsh width (number_of a) (number_of b)
alu_kind Mod width a b = binary_kind Mod width (number_of a) (number_of b)
alu_kind SignedMod width a b = binary_kind SignedMod width (number_of a) (number_of b)
alu_kind Xor width a b = binary_kind Xor width (number_of a) (number_of b)
alu_kind Mov width a b = copied_kind width b
alu_kind Arsh width a b = binary_kind Arsh width (number_of a) (number_of b)

-- ---- loads and stores (RFC 9669, section 5)

-- two places, if there are both
abbrev pub both_places : Option ℕ → Option ℕ → Option (ℕ × ℕ)
both_places None b = None
both_places (Some a) None = None
both_places (Some a) (Some b) = Some (a, b)

-- The first place of an access of `bytes` bytes, at the least offset and at the greatest. There is none if one of the
-- two is not wholly inside the region.
abbrev pub access_places : Region → (bytes : ℕ) → ℤ × ℤ → (offset : ℤ) → Option (ℕ × ℕ)
access_places region bytes offsets offset =
    both_places (region_place_of region bytes (offsets.0 +ℤ offset)) (region_place_of region bytes (offsets.1 +ℤ offset))

-- whether all bytes of an access are set; those of the header always are
abbrev pub is_set : Region → List Bool → (bytes : ℕ) → ℕ × ℕ → Bool
is_set Front marks bytes places = true
is_set Tail marks bytes places = true
is_set Stack marks bytes places = all_marked marks places.0 (places.1 + bytes - places.0)

-- what a load gives: a number of as many bytes, or any word if the sign is extended
abbrev pub loaded_range : LoadSize → Range
loaded_range LoadByte = (0, 2 ^ 8 - 1)
loaded_range LoadHalf = (0, 2 ^ 16 - 1)
loaded_range LoadWord = (0, 2 ^ 32 - 1)
loaded_range LoadDouble = (0, 2 ^ 64 - 1)
loaded_range SignedByte = (0, 2 ^ 64 - 1)
loaded_range SignedHalf = (0, 2 ^ 64 - 1)
loaded_range SignedWord = (0, 2 ^ 64 - 1)

-- if numbers keep their ranges, a load of one word of the stack gives the range of that word
abbrev pub kept_range : StateValue → LoadSize → Region → ℕ × ℕ → Range
kept_range a size Front places = loaded_range size
kept_range a size Tail places = loaded_range size
kept_range a size Stack places =
    if is_stack_word (load_bytes size) places then range_at a (places.0 / 8) else loaded_range size

-- what a load of bytes that are set gives
abbrev pub read_range : Spill → StateValue → LoadSize → Region → ℕ × ℕ → Range
read_range Forgets a size region places = loaded_range size
read_range Keeps a size region places = kept_range a size region places

-- a load at these places
abbrev pub read_kind : Spill → StateValue → LoadSize → Region → Option (ℕ × ℕ) → Result AbsKind Cause
read_kind spill a size region None = Err OutOfRegion
read_kind spill a size region (Some places) =
    if is_set region a.marks (load_bytes size) places then Ok (Num (read_range spill a size region places))
    else Err UnsetStack

-- a load through a pointer
abbrev pub load_kind : Spill → StateValue → LoadSize → (base : AbsKind) → (offset : ℤ) → Result AbsKind Cause
load_kind spill a size Unset offset = Err UnsetOperand
load_kind spill a size (Num n) offset = Err KindMismatch
load_kind spill a size (Ptr region offsets) offset =
    read_kind spill a size region (access_places region (load_bytes size) offsets offset)
load_kind spill a size (Map index) offset = Err KindMismatch

-- what is known after a store of a number of that range
abbrev pub with_stored : Spill → StateValue → (bytes : ℕ) → ℕ × ℕ → Range → StateValue
with_stored spill a bytes places value =
    with_stack a (stored_marks a.marks bytes places) (stored_ranges spill a.ranges bytes places value)

-- a store at these places
abbrev pub after_write_at : Spill → StateValue → (bytes : ℕ) → Option (ℕ × ℕ) → Range → Result StateValue Cause
after_write_at spill a bytes None value = Err OutOfRegion
after_write_at spill a bytes (Some places) value = Ok (with_stored spill a bytes places value)

-- a store to the stack at one of these offsets
abbrev pub after_stack_write : Spill → StateValue → (bytes : ℕ) → ℤ × ℤ → (offset : ℤ) → Range → Result StateValue Cause
after_stack_write spill a bytes offsets offset value =
    after_write_at spill a bytes (access_places Stack bytes offsets offset) value

-- a store to a region: the header is read-only
abbrev pub after_write_to : Spill → StateValue → (bytes : ℕ) → Region → ℤ × ℤ → (offset : ℤ) → Range
    → Result StateValue Cause
after_write_to spill a bytes Front offsets offset value = Err HeaderWrite
after_write_to spill a bytes Tail offsets offset value = Err HeaderWrite
after_write_to spill a bytes Stack offsets offset value = after_stack_write spill a bytes offsets offset value

-- a store of a number through a pointer
abbrev pub after_store : Spill → StateValue → (bytes : ℕ) → (base : AbsKind) → (offset : ℤ) → Result Range Cause
    → Result StateValue Cause
after_store spill a bytes Unset offset value = Err UnsetOperand
after_store spill a bytes (Num n) offset value = Err KindMismatch
after_store spill a bytes (Ptr region offsets) offset (Err cause) = Err cause
after_store spill a bytes (Ptr region offsets) offset (Ok value) =
    after_write_to spill a bytes region offsets offset value
after_store spill a bytes (Map index) offset value = Err KindMismatch

-- ---- instructions

-- the register is written
abbrev pub with_result : StateValue → (register : ℕ) → Result AbsKind Cause → Result StateValue Cause
with_result a register (Err cause) = Err cause
with_result a register (Ok kind) = Ok (with_kind a register kind)

-- a map by its index; if no map has the index, nothing is known
abbrev pub map_kind : ℤ → AbsKind
map_kind (pos index) = if nat_lt index 256 then Map index else Unset
map_kind (negsuc n) = Unset

-- what an instruction does that goes on to the next one. All others do not change what is known.
abbrev pub after_insn : Spill → StateValue → Insn → Result StateValue Cause
after_insn spill a (Alu op width dst src) = with_result a dst (alu_kind op width (kind_at a dst) (operand_kind a src))
after_insn spill a (Negate width dst) = with_result a dst (unary_kind (negated_range width) (number_of (kind_at a dst)))
after_insn spill a (MoveSigned extension dst src) =
    with_result a dst (unary_kind (extended_range extension) (number_of (kind_at a src)))
after_insn spill a (ByteSwap swap bits dst) =
    with_result a dst (unary_kind (swapped_range swap bits) (number_of (kind_at a dst)))
after_insn spill a (Load size dst place) =
    with_result a dst (load_kind spill a size (kind_at a place.base) place.offset)
after_insn spill a (Store size place src) =
    after_store spill a (size_bytes size) (kind_at a place.base) place.offset (number_of (operand_kind a src))
after_insn spill a (Jump comparison offset) = Ok a
after_insn spill a (Goto distance) = Ok a
after_insn spill a (Wide dst value) = Ok (with_kind a dst (Num (single_range value)))
after_insn spill a (LoadMap dst index) = Ok (with_kind a dst (map_kind index))
after_insn spill a (LoadAddress dst address) = Ok a
after_insn spill a (Call callee number) = Ok a
after_insn spill a Exit = Ok a

-- ---- what else contracts and proofs say

-- a change in place: the state becomes what is given, or stays as before if the instruction is refused
abbrev pub Becomes : Result (Unit {0}) Cause → (old new : StateValue) → (given : Result StateValue Cause) → Type 0
Becomes (Ok done) old new given = given ≡ Ok new
Becomes (Err cause) old new given = (given ≡ Err cause) × (new ≡ old)

-- a store of `bytes` bytes of a value through a pointer, in place
abbrev pub Stores : Spill → Result (Unit {0}) Cause → (old new : StateValue) → (bytes : ℕ) → (base : AbsKind)
    → (offset : ℤ) → (value : AbsKind) → Type 0
Stores spill done old new bytes base offset value =
    Becomes done old new (after_store spill old bytes base offset (number_of value))

-- an instruction in place
abbrev pub Applies : Spill → Result (Unit {0}) Cause → (old new : StateValue) → Insn → Type 0
Applies spill done old new insn = Becomes done old new (after_insn spill old insn)
