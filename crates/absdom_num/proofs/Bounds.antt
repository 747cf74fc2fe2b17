-- The result of an operation on two numbers of its width is a number of that width.
use Rattle.std.proofs.Common.{ℕ, ◌≡◌, ◌+◌, ◌-◌, ◌*◌, ◌/◌, ◌%◌, ◌^◌, ◌<◌, ◌≤◌, ℤ, pos, negsuc, arith}
use Rattle.std.specs.Prelude.{if◌then◌else◌, bit_or, bit_xor, int_div, int_rem}
use Rattle.std.specs.Int.{int_shr}
use Rattle.std.proofs.lemmas.Nat.{and_le_l, or_lt, xor_lt}
use Rattle.std.proofs.Math.Nat.{div-le_self, mod-le}
use Rattle.bpf_parts.specs.declared.operation.Width.{Width}
use Rattle.bpf_parts.specs.declared.operation.Width.TheVariants.{Bits32, Bits64}
use Rattle.bpf_parts.specs.declared.operation.AluOp.{AluOp}
use Rattle.bpf_parts.specs.declared.operation.AluOp.TheVariants.{Add, Sub, Mul, Div, SignedDiv, Or, And, Lsh, Rsh, Mod, SignedMod, Xor, Mov, Arsh}
use Rattle.machine.specs.Words.{bits_of, modulus, low_part, signed_value, residue, wrapped_number, quotient, remainder, signed_quotient, signed_remainder, alu_low}
use Rattle.lemmas.proofs.Cases.{by_eq}

pub modulus_pos : (width : Width) → 0 < modulus width
modulus_pos Bits32 = omega arith
modulus_pos Bits64 = omega arith

pub modulus_most : (width : Width) → modulus width ≤ 2 ^ 64
modulus_most Bits32 = omega arith
modulus_most Bits64 = omega arith

pub mod_once : (width : Width) (n : ℕ) → modulus width ≤ n → n < modulus width + modulus width → n % modulus width ≡ n - modulus width
mod_once Bits32 n p q = omega arith
mod_once Bits64 n p q = omega arith

pub mod_small : (width : Width) (n : ℕ) → n % modulus width < modulus width
mod_small Bits32 n = omega arith
mod_small Bits64 n = omega arith

pub residue_small : (width : Width) (z : ℤ) → residue (modulus width) z < modulus width
residue_small Bits32 (pos n) = omega arith
residue_small Bits32 (negsuc n) = omega arith
residue_small Bits64 (pos n) = omega arith
residue_small Bits64 (negsuc n) = omega arith

or_small : (width : Width) (a b : ℕ) → a < modulus width → b < modulus width → bit_or a b < modulus width
or_small Bits32 a b p q = or_lt 32 a b p q
or_small Bits64 a b p q = or_lt 64 a b p q

xor_small : (width : Width) (a b : ℕ) → a < modulus width → b < modulus width → bit_xor a b < modulus width
xor_small Bits32 a b p q = xor_lt 32 a b p q
xor_small Bits64 a b p q = xor_lt 64 a b p q

quotient_small : (m a b : ℕ) → a < m → quotient a b < m
quotient_small m a b p =
    by_eq (λ t. (if t then 0 else a / b) < m) b 0 (λ _. omega arith) (λ _. omega (arith, div-le_self a b))

remainder_small : (m a b : ℕ) → a < m → remainder a b < m
remainder_small m a b p =
    by_eq (λ t. (if t then a else a % b) < m) b 0 (λ _. p) (λ _. omega (arith, mod-le a b))

signed_quotient_small : (width : Width) (a b : ℕ) → signed_quotient width a b < modulus width
signed_quotient_small width a b =
    by_eq (λ t. (if t then 0 else wrapped_number width (int_div (signed_value width a) (signed_value width b))) < modulus width) b 0
    (λ _. modulus_pos width)
    (λ _. residue_small width (int_div (signed_value width a) (signed_value width b)))

signed_remainder_small : (width : Width) (a b : ℕ) → a < modulus width → signed_remainder width a b < modulus width
signed_remainder_small width a b p =
    by_eq (λ t. (if t then a else wrapped_number width (int_rem (signed_value width a) (signed_value width b))) < modulus width) b 0
    (λ _. p)
    (λ _. residue_small width (int_rem (signed_value width a) (signed_value width b)))

pub alu_low_small : (op : AluOp) (width : Width) (a b : ℕ) → a < modulus width → b < modulus width → alu_low op width a b < modulus width
alu_low_small Add width a b p q = mod_small width (a + b)
alu_low_small Sub width a b p q = mod_small width (a + (modulus width - b))
alu_low_small Mul width a b p q = mod_small width (a * b)
alu_low_small Div width a b p q = quotient_small (modulus width) a b p
alu_low_small SignedDiv width a b p q = signed_quotient_small width a b
alu_low_small Or width a b p q = or_small width a b p q
alu_low_small And width a b p q = omega (arith, and_le_l a b)
alu_low_small Lsh width a b p q = mod_small width (a * 2 ^ (b % bits_of width))
alu_low_small Rsh width a b p q = omega (arith, div-le_self a (2 ^ (b % bits_of width)))
alu_low_small Mod width a b p q = remainder_small (modulus width) a b p
alu_low_small SignedMod width a b p q = signed_remainder_small width a b p
alu_low_small Xor width a b p q = xor_small width a b p q
alu_low_small Mov width a b p q = q
alu_low_small Arsh width a b p q = residue_small width (int_shr (signed_value width a) (b % bits_of width))

pub low_small : (width : Width) (n : ℕ) → n < 2 ^ 64 → low_part width n < modulus width
low_small Bits32 n p = omega arith
low_small Bits64 n p = p
