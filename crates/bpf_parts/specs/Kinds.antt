-- What a number of those tables means: the tables of `Codes`, read from right to left.
use Rattle.std.specs.Prelude.{ℕ, ℤ, pos, negsuc, Bool, ◌==◌, if◌then◌else◌, Option, Some, None}
use Rattle.bpf_parts.specs.declared.operation.Width.{Width}
use Rattle.bpf_parts.specs.declared.operation.Width.TheVariants.{Bits32, Bits64}
use Rattle.bpf_parts.specs.declared.operation.AluOp.{AluOp}
use Rattle.bpf_parts.specs.declared.operation.AluOp.TheVariants.{Add, Sub, Mul, Div, SignedDiv, Or, And, Lsh, Rsh}
use Rattle.bpf_parts.specs.declared.operation.AluOp.TheVariants.{Mod, SignedMod, Xor, Mov, Arsh}
use Rattle.bpf_parts.specs.declared.operation.Extension.{Extension}
use Rattle.bpf_parts.specs.declared.operation.Extension.TheVariants.{ByteTo32, HalfTo32, ByteTo64, HalfTo64, WordTo64}
use Rattle.bpf_parts.specs.declared.operation.Swap.{Swap}
use Rattle.bpf_parts.specs.declared.operation.Swap.TheVariants.{ToLittle, ToBig, Reverse}
use Rattle.bpf_parts.specs.declared.operation.SwapBits.{SwapBits}
use Rattle.bpf_parts.specs.declared.operation.SwapBits.TheVariants.{Swap16, Swap32, Swap64}
use Rattle.bpf_parts.specs.declared.operation.Condition.{Condition}
use Rattle.bpf_parts.specs.declared.operation.Condition.TheVariants.{Equal, Greater, GreaterEqual, AnyBits, NotEqual}
use Rattle.bpf_parts.specs.declared.operation.Condition.TheVariants.{SignedGreater, SignedGreaterEqual, Less}
use Rattle.bpf_parts.specs.declared.operation.Condition.TheVariants.{LessEqual, SignedLess, SignedLessEqual}
use Rattle.bpf_parts.specs.declared.memory.Size.{Size}
use Rattle.bpf_parts.specs.declared.memory.Size.TheVariants.{Byte, Half, Word, Double}
use Rattle.bpf_parts.specs.declared.memory.LoadSize.{LoadSize}
use Rattle.bpf_parts.specs.declared.memory.LoadSize.TheVariants.{LoadByte, LoadHalf, LoadWord, LoadDouble, SignedByte}
use Rattle.bpf_parts.specs.declared.memory.LoadSize.TheVariants.{SignedHalf, SignedWord}
use Rattle.bpf_parts.specs.declared.address.Address.{Address}
use Rattle.bpf_parts.specs.declared.address.Address.TheVariants.{MapByFile, MapValueByFile, Variable, Code}
use Rattle.bpf_parts.specs.declared.address.Address.TheVariants.{MapValueByIndex}
use Rattle.bpf_parts.specs.declared.callee.Callee.{Callee}
use Rattle.bpf_parts.specs.declared.callee.Callee.TheVariants.{Helper, Local, ByTypeId}

-- the operation of a code; of two divisions with one code, the signed one if that is asked for
abbrev pub alu_of : ℕ → Bool → Option AluOp
alu_of code signed =
    if code == 0 then Some Add
    else (if code == 1 then Some Sub
    else (if code == 2 then Some Mul
    else (if code == 3 then Some (if signed then SignedDiv else Div)
    else (if code == 4 then Some Or
    else (if code == 5 then Some And
    else (if code == 6 then Some Lsh
    else (if code == 7 then Some Rsh
    else (if code == 9 then Some (if signed then SignedMod else Mod)
    else (if code == 10 then Some Xor
    else (if code == 11 then Some Mov
    else (if code == 12 then Some Arsh
    else None)))))))))))

-- the extension of `n` bits to a width, from the offset of a sign-extending move
abbrev pub extension_from : Width → ℕ → Option Extension
extension_from Bits32 n = if n == 8 then Some ByteTo32 else (if n == 16 then Some HalfTo32 else None)
extension_from Bits64 n =
    if n == 8 then Some ByteTo64 else (if n == 16 then Some HalfTo64 else (if n == 32 then Some WordTo64 else None))

-- the extension of this many bits to a width
abbrev pub extension_of : Width → ℤ → Option Extension
extension_of width (pos n) = extension_from width n
extension_of width (negsuc n) = None

-- the byte order of a class and a source bit
abbrev pub swap_of : Width → Bool → Option Swap
swap_of Bits32 register = Some (if register then ToBig else ToLittle)
swap_of Bits64 register = if register then None else Some Reverse

-- the byte swap of this many bits
abbrev pub swap_bits_of : ℤ → Option SwapBits
swap_bits_of (pos n) =
    if n == 16 then Some Swap16 else (if n == 32 then Some Swap32 else (if n == 64 then Some Swap64 else None))
swap_bits_of (negsuc n) = None

-- the condition of a code (section 4.3)
abbrev pub condition_of : ℕ → Option Condition
condition_of code =
    if code == 1 then Some Equal
    else (if code == 2 then Some Greater
    else (if code == 3 then Some GreaterEqual
    else (if code == 4 then Some AnyBits
    else (if code == 5 then Some NotEqual
    else (if code == 6 then Some SignedGreater
    else (if code == 7 then Some SignedGreaterEqual
    else (if code == 10 then Some Less
    else (if code == 11 then Some LessEqual
    else (if code == 12 then Some SignedLess
    else (if code == 13 then Some SignedLessEqual
    else None))))))))))

-- the size of a store, from mode and size of its opcode (section 5)
abbrev pub size_of : ℕ → Option Size
size_of code =
    if code == 0x60 then Some Word
    else (if code == 0x68 then Some Half
    else (if code == 0x70 then Some Byte
    else (if code == 0x78 then Some Double
    else None)))

-- the size of a load, from mode and size of its opcode (section 5)
abbrev pub load_size_of : ℕ → Option LoadSize
load_size_of code =
    if code == 0x60 then Some LoadWord
    else (if code == 0x68 then Some LoadHalf
    else (if code == 0x70 then Some LoadByte
    else (if code == 0x78 then Some LoadDouble
    else (if code == 0x80 then Some SignedWord
    else (if code == 0x88 then Some SignedHalf
    else (if code == 0x90 then Some SignedByte
    else None))))))

-- the address of a subtype and of the two immediates (section 5.4)
abbrev pub wide_address : ℕ → ℤ → ℤ → Option Address
wide_address subtype first second =
    if subtype == 1 then Some (MapByFile first)
    else (if subtype == 2 then Some (MapValueByFile first second)
    else (if subtype == 3 then Some (Variable first)
    else (if subtype == 4 then Some (Code first)
    else (if subtype == 6 then Some (MapValueByIndex first second)
    else None))))

-- the callee of a call, from its source field (section 4.3)
abbrev pub callee_of : ℕ → Option Callee
callee_of code =
    if code == 0 then Some Helper
    else (if code == 1 then Some Local
    else (if code == 2 then Some ByTypeId
    else None))
