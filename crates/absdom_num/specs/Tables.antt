-- What arithmetic does to ranges (a choice of this project). A range is what is known of a number, so
-- each row gives a range that has every result of numbers in the operands' ranges.
use Rattle.std.specs.Prelude.{ℕ, ◌+◌, ◌-◌, ◌*◌, ◌/◌, ◌%◌, ◌^◌, Bool, ◌&&◌, ◌==◌, nat_lt, nat_le, if◌then◌else◌, min}
use Rattle.std.specs.Prelude.{max}
use Rattle.std.specs.Int.{w64, leading_zeros}
use Rattle.bpf_parts.specs.declared.operation.Width.{Width}
use Rattle.bpf_parts.specs.declared.operation.Width.TheVariants.{Bits32, Bits64}
use Rattle.bpf_parts.specs.declared.operation.AluOp.{AluOp}
use Rattle.bpf_parts.specs.declared.operation.AluOp.TheVariants.{Add, Sub, Mul, Div, SignedDiv, Or, And, Lsh, Rsh}
use Rattle.bpf_parts.specs.declared.operation.AluOp.TheVariants.{Mod, SignedMod, Xor, Mov, Arsh}
use Rattle.bpf_parts.specs.declared.operation.Extension.{Extension}
use Rattle.bpf_parts.specs.declared.operation.Extension.TheVariants.{ByteTo32, HalfTo32, ByteTo64, HalfTo64, WordTo64}
use Rattle.bpf_parts.specs.declared.operation.Swap.{Swap}
use Rattle.bpf_parts.specs.declared.operation.SwapBits.{SwapBits}
use Rattle.bpf_parts.specs.declared.operation.SwapBits.TheVariants.{Swap16, Swap32, Swap64}
use Rattle.bpf_parts.specs.Codes.{extension_width}
use Rattle.machine.specs.Words.{bits_of, modulus, alu_words, negation, sign_extension, swapped_bytes}
use Rattle.absdom_num.specs.declared.ranges.Range.{Range}

-- one number
abbrev pub single_range : ℕ → Range
single_range n = (n, n)

-- whether the range has one number
abbrev pub is_single : Range → Bool
is_single a = a.0 == a.1

-- every number of that width
abbrev pub whole_range : Width → Range
whole_range width = (0, modulus width - 1)

-- the first number of that width that is negative when read as signed
abbrev pub sign_weight : Width → ℕ
sign_weight Bits32 = 2 ^ 31
sign_weight Bits64 = 2 ^ 63

-- the part of an operand that an operation of that width reads (section 4.1)
abbrev pub low_range : Width → Range → Range
low_range Bits64 a = a
low_range Bits32 a =
    if nat_lt a.1 (2 ^ 32) then a
    else if is_single a then single_range (a.0 % 2 ^ 32)
    else whole_range Bits32

-- ADD: the sums of the ends, if both wrap or none does
abbrev pub sum_range : Width → Range → Range → Range
sum_range width a b =
    if nat_lt (a.1 + b.1) (modulus width) then (a.0 + b.0, a.1 + b.1)
    else if nat_le (modulus width) (a.0 + b.0) then (a.0 + b.0 - modulus width, a.1 + b.1 - modulus width)
    else whole_range width

-- SUB: likewise
abbrev pub difference_range : Width → Range → Range → Range
difference_range width a b =
    if nat_le b.1 a.0 then (a.0 - b.1, a.1 - b.0)
    else if nat_lt a.1 b.0 then (a.0 + modulus width - b.1, a.1 + modulus width - b.0)
    else whole_range width

-- MUL: the products of the ends, if the greatest does not wrap
abbrev pub product_range : Width → Range → Range → Range
product_range width a b =
    if nat_lt (a.1 * b.1) (modulus width) then (a.0 * b.0, a.1 * b.1) else whole_range width

-- DIV: division by zero gives zero
abbrev pub quotient_range : Range → Range → Range
quotient_range a b = if nat_le 1 b.0 then (a.0 / b.1, a.1 / b.0) else (0, a.1)

-- MOD: a number below the divisor stays, and modulo by zero does not change the destination
abbrev pub remainder_range : Range → Range → Range
remainder_range a b =
    if nat_le 1 b.0 && nat_lt a.1 b.0 then a
    else if nat_le 1 b.0 then (0, min a.1 (b.1 - 1))
    else (0, a.1)

-- the least 2^k - 1 that is at least n
abbrev pub ones_over : ℕ → ℕ
ones_over n = 2 ^ (64 - leading_zeros w64 n) - 1

-- AND: from 0 to the lesser high end
abbrev pub and_range : Range → Range → Range
and_range a b = (0, min a.1 b.1)

-- OR: from the greater low end to all bits up to the highest of both
abbrev pub or_range : Range → Range → Range
or_range a b = (max a.0 b.0, ones_over (max a.1 b.1))

-- XOR: from 0 to all bits up to the highest of both
abbrev pub xor_range : Range → Range → Range
xor_range a b = (0, ones_over (max a.1 b.1))

-- how far a shift by that number goes: the count is masked to the width (section 4.1)
abbrev pub distance : Width → ℕ → ℕ
distance width n = n % bits_of width

-- LSH: by one count that loses no bit
abbrev pub left_range : Width → Range → Range → Range
left_range width a b =
    if is_single b && nat_lt (a.1 * 2 ^ distance width b.0) (modulus width)
    then (a.0 * 2 ^ distance width b.0, a.1 * 2 ^ distance width b.0)
    else whole_range width

-- RSH: by one count, or by any
abbrev pub right_range : Width → Range → Range → Range
right_range width a b =
    if is_single b then (a.0 / 2 ^ distance width b.0, a.1 / 2 ^ distance width b.0) else (0, a.1)

-- ARSH: as RSH if no number is negative
abbrev pub signed_right_range : Width → Range → Range → Range
signed_right_range width a b = if nat_le (sign_weight width) a.1 then whole_range width else right_range width a b

-- the table of an operation, for operands of that width that are not both single numbers
abbrev pub row : AluOp → Width → Range → Range → Range
row Add width a b = sum_range width a b
row Sub width a b = difference_range width a b
row Mul width a b = product_range width a b
row Div width a b = quotient_range a b
row SignedDiv width a b = whole_range width
row Or width a b = or_range a b
row And width a b = and_range a b
row Lsh width a b = left_range width a b
row Rsh width a b = right_range width a b
row Mod width a b = remainder_range a b
row SignedMod width a b = whole_range width
row Xor width a b = xor_range a b
row Mov width a b = b
row Arsh width a b = signed_right_range width a b

-- the result of an operation: exact if both operands are single numbers
abbrev pub alu_range : AluOp → Width → Range → Range → Range
alu_range op width a b =
    if is_single a && is_single b then single_range (alu_words op width a.0 b.0)
    else row op width (low_range width a) (low_range width b)

-- NEG
abbrev pub negated_range : Width → Range → Range
negated_range width a = if is_single a then single_range (negation width a.0) else whole_range width

-- the first number that an extension from these bits reads as negative
abbrev pub sign_bit : Extension → ℕ
sign_bit ByteTo32 = 2 ^ 7
sign_bit HalfTo32 = 2 ^ 15
sign_bit ByteTo64 = 2 ^ 7
sign_bit HalfTo64 = 2 ^ 15
sign_bit WordTo64 = 2 ^ 31

-- MOVSX: a number that is not negative stays. To cut the operand would change nothing, since these bounds are below
-- 2^32.
abbrev pub extended_range : Extension → Range → Range
extended_range extension a =
    if is_single a then single_range (sign_extension extension a.0)
    else if nat_lt a.1 (sign_bit extension) then a
    else whole_range (extension_width extension)

-- the greatest number of that many bits
abbrev pub greatest_number : SwapBits → ℕ
greatest_number Swap16 = 2 ^ 16 - 1
greatest_number Swap32 = 2 ^ 32 - 1
greatest_number Swap64 = 2 ^ 64 - 1

-- END: reads its whole operand in both classes
abbrev pub swapped_range : Swap → SwapBits → Range → Range
swapped_range swap bits a =
    if is_single a then single_range (swapped_bytes swap bits a.0) else (0, greatest_number bits)
