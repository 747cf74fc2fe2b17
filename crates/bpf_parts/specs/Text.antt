-- The text of the parts of an instruction: their names, and the text of operands.
use Rattle.std.specs.Prelude.{ℕ, suc, ℤ, pos, negsuc, List, [], ◌++◌, codes, decimal}
use Rattle.std.specs.Fmt.{signed_decimal}
use Rattle.bpf_parts.specs.declared.operation.Width.{Width}
use Rattle.bpf_parts.specs.declared.operation.Width.TheVariants.{Bits32, Bits64}
use Rattle.bpf_parts.specs.declared.operation.AluOp.{AluOp}
use Rattle.bpf_parts.specs.declared.operation.AluOp.TheVariants.{Add, Sub, Mul, Div, SignedDiv, Or, And, Lsh, Rsh}
use Rattle.bpf_parts.specs.declared.operation.AluOp.TheVariants.{Mod, SignedMod, Xor, Mov, Arsh}
use Rattle.bpf_parts.specs.declared.operation.Operand.{Operand}
use Rattle.bpf_parts.specs.declared.operation.Operand.TheVariants.{FromRegister, Immediate}
use Rattle.bpf_parts.specs.declared.operation.Extension.{Extension}
use Rattle.bpf_parts.specs.declared.operation.Extension.TheVariants.{ByteTo32, HalfTo32, ByteTo64, HalfTo64, WordTo64}
use Rattle.bpf_parts.specs.declared.operation.Swap.{Swap}
use Rattle.bpf_parts.specs.declared.operation.Swap.TheVariants.{ToLittle, ToBig, Reverse}
use Rattle.bpf_parts.specs.declared.operation.SwapBits.{SwapBits}
use Rattle.bpf_parts.specs.declared.operation.SwapBits.TheVariants.{Swap16, Swap32, Swap64}
use Rattle.bpf_parts.specs.declared.operation.Condition.{Condition}
use Rattle.bpf_parts.specs.declared.operation.Condition.TheVariants.{Equal, Greater, GreaterEqual, AnyBits, NotEqual}
use Rattle.bpf_parts.specs.declared.operation.Condition.TheVariants.{SignedGreater, SignedGreaterEqual, Less}
use Rattle.bpf_parts.specs.declared.operation.Condition.TheVariants.{LessEqual, SignedLess, SignedLessEqual}
use Rattle.bpf_parts.specs.declared.memory.MemoryOperand.{MemoryOperand}
use Rattle.bpf_parts.specs.declared.memory.Size.{Size}
use Rattle.bpf_parts.specs.declared.memory.Size.TheVariants.{Byte, Half, Word, Double}
use Rattle.bpf_parts.specs.declared.memory.LoadSize.{LoadSize}
use Rattle.bpf_parts.specs.declared.memory.LoadSize.TheVariants.{LoadByte, LoadHalf, LoadWord, LoadDouble, SignedByte}
use Rattle.bpf_parts.specs.declared.memory.LoadSize.TheVariants.{SignedHalf, SignedWord}
use Rattle.bpf_parts.specs.declared.callee.Callee.{Callee}
use Rattle.bpf_parts.specs.declared.callee.Callee.TheVariants.{Helper, Local, ByTypeId}

-- ---- the statement

-- ---- operands

-- `r` and the number of a register
abbrev pub register_text : ℕ → List ℕ
register_text number = codes "r" ++ decimal number

-- ---- names

-- an operation of 32 bits has the name of the one of 64 bits, and `32` after it
abbrev pub width_suffix : Width → List ℕ
width_suffix Bits32 = codes "32"
width_suffix Bits64 = []

-- the name of an operation of arithmetic on 64 bits
abbrev pub alu_name : AluOp → List ℕ
alu_name Add = codes "add"
alu_name Sub = codes "sub"
alu_name Mul = codes "mul"
alu_name Div = codes "div"
alu_name SignedDiv = codes "sdiv"
alu_name Or = codes "or"
alu_name And = codes "and"
alu_name Lsh = codes "lsh"
alu_name Rsh = codes "rsh"
alu_name Mod = codes "mod"
alu_name SignedMod = codes "smod"
alu_name Xor = codes "xor"
alu_name Mov = codes "mov"
alu_name Arsh = codes "arsh"

-- the name of a conditional jump on 64 bits
abbrev pub condition_name : Condition → List ℕ
condition_name Equal = codes "jeq"
condition_name Greater = codes "jgt"
condition_name GreaterEqual = codes "jge"
condition_name AnyBits = codes "jset"
condition_name NotEqual = codes "jne"
condition_name SignedGreater = codes "jsgt"
condition_name SignedGreaterEqual = codes "jsge"
condition_name Less = codes "jlt"
condition_name LessEqual = codes "jle"
condition_name SignedLess = codes "jslt"
condition_name SignedLessEqual = codes "jsle"

-- the name of a sign-extending move
abbrev pub extension_name : Extension → List ℕ
extension_name ByteTo32 = codes "mov32sx8"
extension_name HalfTo32 = codes "mov32sx16"
extension_name ByteTo64 = codes "movsx8"
extension_name HalfTo64 = codes "movsx16"
extension_name WordTo64 = codes "movsx32"

-- the name of a byte order, before the width
abbrev pub swap_name : Swap → List ℕ
swap_name ToLittle = codes "le"
swap_name ToBig = codes "be"
swap_name Reverse = codes "swap"

-- the width after the name of a byte order
abbrev pub swap_bits_name : SwapBits → List ℕ
swap_bits_name Swap16 = codes "16"
swap_bits_name Swap32 = codes "32"
swap_bits_name Swap64 = codes "64"

-- the end of the name of a load: its size, with an `s` if the sign is extended
abbrev pub load_suffix : LoadSize → List ℕ
load_suffix LoadByte = codes "b"
load_suffix LoadHalf = codes "h"
load_suffix LoadWord = codes "w"
load_suffix LoadDouble = codes "dw"
load_suffix SignedByte = codes "sb"
load_suffix SignedHalf = codes "sh"
load_suffix SignedWord = codes "sw"

-- the end of the name of a store: its size
abbrev pub store_suffix : Size → List ℕ
store_suffix Byte = codes "b"
store_suffix Half = codes "h"
store_suffix Word = codes "w"
store_suffix Double = codes "dw"

-- the beginning of the name of a store: of a register, or of an immediate
abbrev pub store_prefix : Operand → List ℕ
store_prefix (FromRegister register) = codes "stx"
store_prefix (Immediate value) = codes "st"

-- the name of a call, by its callee
abbrev pub callee_name : Callee → List ℕ
callee_name Helper = codes "call"
callee_name Local = codes "calllocal"
callee_name ByTypeId = codes "callbtf"

-- ---- what else contracts and proofs say

-- ---- operands

-- a register, or a decimal number
abbrev pub operand_text : Operand → List ℕ
operand_text (FromRegister register) = register_text register
operand_text (Immediate value) = signed_decimal value

-- a decimal number with its sign, plus or minus
abbrev pub signed_text : ℤ → List ℕ
signed_text (pos n) = codes "+" ++ decimal n
signed_text (negsuc n) = codes "-" ++ decimal (suc n)

-- a memory operand
abbrev pub memory_operand_text : MemoryOperand → List ℕ
memory_operand_text place = codes "[" ++ register_text place.base ++ signed_text place.offset ++ codes "]"
