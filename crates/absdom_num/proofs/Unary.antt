-- The result of an operation on one number of a range lies in the range of the table.
use Rattle.std.proofs.Common.{ℕ, ◌≡◌, ◌-◌, ◌%◌, ◌^◌, ◌<◌, ◌≤◌, ap, arith}
use Rattle.std.specs.Prelude.{nat_lt, if◌then◌else◌}
use Rattle.std.specs.Int.{w8, w16, w32, w64, cast_signed, swap_bytes}
use Rattle.std.proofs.lemmas.Int.{to_z_pos}
use Rattle.bpf_parts.specs.declared.operation.Width.{Width}
use Rattle.bpf_parts.specs.declared.operation.Width.TheVariants.{Bits32, Bits64}
use Rattle.bpf_parts.specs.declared.operation.Extension.{Extension}
use Rattle.bpf_parts.specs.declared.operation.Extension.TheVariants.{ByteTo32, HalfTo32, ByteTo64, HalfTo64, WordTo64}
use Rattle.bpf_parts.specs.declared.operation.Swap.{Swap}
use Rattle.bpf_parts.specs.declared.operation.Swap.TheVariants.{ToLittle, ToBig, Reverse}
use Rattle.bpf_parts.specs.declared.operation.SwapBits.{SwapBits}
use Rattle.bpf_parts.specs.declared.operation.SwapBits.TheVariants.{Swap16, Swap32, Swap64}
use Rattle.bpf_parts.specs.Codes.{extension_width}
use Rattle.machine.specs.Words.{modulus, low_part, negation, sign_extension, swapped_bytes}
use Rattle.absdom_num.specs.declared.ranges.Range.{Range}
use Rattle.absdom_num.specs.Ranges.{IsIn}
use Rattle.absdom_num.specs.Tables.{single_range, whole_range, negated_range, sign_bit, extended_range, greatest_number, swapped_range}
use Rattle.lemmas.proofs.Cases.{by_lt, by_eq}
use Rattle.absdom_num.proofs.Bounds.{modulus_most, mod_small, residue_small}

only_fits : (k j : ℕ) → k ≡ j → k < 2 ^ 64 → IsIn k (single_range j)
only_fits k j e h = record { above = omega arith; below = omega arith; word = h }

whole_fits : (width : Width) (k : ℕ) → k < modulus width → IsIn k (whole_range width)
whole_fits width k p = record { above = omega arith; below = omega arith; word = omega (arith, modulus_most width) }

pub negate_fits : (width : Width) (a : Range) (n : ℕ) → IsIn n a → IsIn (negation width n) (negated_range width a)
negate_fits width a n p =
    by_eq (λ t. IsIn (negation width n) (if t then single_range (negation width a.0) else whole_range width)) a.0 a.1
    (λ e.
    let f : n ≡ a.0 = omega arith in
    only_fits _ _ (ap (negation width) f) (omega (arith, modulus_most width, mod_small width (modulus width - low_part width n))))
    (λ e. whole_fits width _ (mod_small width (modulus width - low_part width n)))

extended_small : (extension : Extension) (n : ℕ) → sign_extension extension n < modulus (extension_width extension)
extended_small ByteTo32 n = residue_small Bits32 (cast_signed w8 (n % 2 ^ 8))
extended_small HalfTo32 n = residue_small Bits32 (cast_signed w16 (n % 2 ^ 16))
extended_small ByteTo64 n = residue_small Bits64 (cast_signed w8 (n % 2 ^ 8))
extended_small HalfTo64 n = residue_small Bits64 (cast_signed w16 (n % 2 ^ 16))
extended_small WordTo64 n = residue_small Bits64 (cast_signed w32 (n % 2 ^ 32))

-- a number that is not negative stays
extended_same : (extension : Extension) (n : ℕ) → n < sign_bit extension → sign_extension extension n ≡ n
extended_same ByteTo32 n h =
    let e : n % 2 ^ 8 ≡ n = omega arith in
    rw (e, to_z_pos w8 n h) (omega arith)
extended_same HalfTo32 n h =
    let e : n % 2 ^ 16 ≡ n = omega arith in
    rw (e, to_z_pos w16 n h) (omega arith)
extended_same ByteTo64 n h =
    let e : n % 2 ^ 8 ≡ n = omega arith in
    rw (e, to_z_pos w8 n h) (omega arith)
extended_same HalfTo64 n h =
    let e : n % 2 ^ 16 ≡ n = omega arith in
    rw (e, to_z_pos w16 n h) (omega arith)
extended_same WordTo64 n h =
    let e : n % 2 ^ 32 ≡ n = omega arith in
    rw (e, to_z_pos w32 n h) (omega arith)

pub move_signed_fits : (extension : Extension) (a : Range) (n : ℕ) → IsIn n a → IsIn (sign_extension extension n) (extended_range extension a)
move_signed_fits extension a n p =
    let s : sign_extension extension n < 2 ^ 64 = omega (arith, extended_small extension n, modulus_most (extension_width extension)) in
    by_eq
    (λ t. IsIn (sign_extension extension n)
    (if t then single_range (sign_extension extension a.0)
    else if nat_lt a.1 (sign_bit extension) then a
    else whole_range (extension_width extension)))
    a.0 a.1
    (λ e.
    let f : n ≡ a.0 = omega arith in
    only_fits _ _ (ap (sign_extension extension) f) s)
    (λ e.
    by_lt (λ t. IsIn (sign_extension extension n) (if t then a else whole_range (extension_width extension))) a.1 (sign_bit extension)
    (λ h. rw (extended_same extension n (omega arith)) p)
    (λ h. whole_fits (extension_width extension) _ (extended_small extension n)))

swap_16_small : (n : ℕ) → swap_bytes w16 n ≤ 2 ^ 16 - 1
swap_16_small n = omega arith

swap_32_small : (n : ℕ) → swap_bytes w32 n ≤ 2 ^ 32 - 1
swap_32_small n = omega arith

swap_64_small : (n : ℕ) → swap_bytes w64 n ≤ 2 ^ 64 - 1
swap_64_small n = omega arith

swapped_small : (swap : Swap) (bits : SwapBits) (n : ℕ) → n < 2 ^ 64 → swapped_bytes swap bits n ≤ greatest_number bits
swapped_small ToLittle Swap16 n h = omega arith
swapped_small ToLittle Swap32 n h = omega arith
swapped_small ToLittle Swap64 n h = omega arith
swapped_small ToBig Swap16 n h = swap_16_small (n % 2 ^ 16)
swapped_small ToBig Swap32 n h = swap_32_small (n % 2 ^ 32)
swapped_small ToBig Swap64 n h = swap_64_small n
swapped_small Reverse Swap16 n h = swap_16_small (n % 2 ^ 16)
swapped_small Reverse Swap32 n h = swap_32_small (n % 2 ^ 32)
swapped_small Reverse Swap64 n h = swap_64_small n

greatest_word : (bits : SwapBits) → greatest_number bits < 2 ^ 64
greatest_word Swap16 = omega arith
greatest_word Swap32 = omega arith
greatest_word Swap64 = omega arith

pub byte_swap_fits : (swap : Swap) (bits : SwapBits) (a : Range) (n : ℕ) → IsIn n a → IsIn (swapped_bytes swap bits n) (swapped_range swap bits a)
byte_swap_fits swap bits a n p =
    let s : swapped_bytes swap bits n ≤ greatest_number bits = swapped_small swap bits n p.word in
    let w : swapped_bytes swap bits n < 2 ^ 64 = omega (arith, greatest_word bits) in
    by_eq (λ t. IsIn (swapped_bytes swap bits n) (if t then single_range (swapped_bytes swap bits a.0) else (0, greatest_number bits))) a.0 a.1
    (λ e.
    let f : n ≡ a.0 = omega arith in
    only_fits _ _ (ap (swapped_bytes swap bits) f) w)
    (λ e. record { above = omega arith; below = s; word = w })
