-- Results of arithmetic are below their modulus.
use Rattle.std.proofs.Common.{lit<, ℕ, ◌/◌, ◌%◌, ◌^◌, ◌<◌, ◌≤◌, arith, Bool, true, false, cond, eqb, ℤ, pos, negsuc}
use Rattle.std.proofs.Math.Nat.{div-le_self, mod-le}
use Rattle.std.proofs.lemmas.Nat.{mod_below, or_lt, xor_lt, and_le_l}
use Rattle.std.specs.Int.Bits.{bit_and, bit_or, bit_xor}
use Rattle.bpf_parts.specs.declared.operation.Width.{Width}
use Rattle.bpf_parts.specs.declared.operation.Width.TheVariants.{Bits32, Bits64}
use Rattle.bpf_parts.specs.declared.operation.AluOp.{AluOp}
use Rattle.bpf_parts.specs.declared.operation.AluOp.TheVariants.{Add, Sub, Mul, Div, SignedDiv, Or, And, Lsh, Rsh, Mod, SignedMod, Xor, Mov, Arsh}
use Rattle.machine.specs.Words.{bits_of, modulus, low_part, residue, alu_low, alu_words}

modulus_positive : (width : Width) → 0 < modulus width
modulus_positive Bits32 = lit< tt
modulus_positive Bits64 = lit< tt

low_small : (width : Width) (n : ℕ) → n < 2 ^ 64 → low_part width n < modulus width
low_small Bits32 n h = mod_below n (2 ^ 32) (lit< tt)
low_small Bits64 n h = h

pub residue_small : (m : ℕ) (z : ℤ) → 0 < m → residue m z < m
residue_small m (pos n) h = mod_below n m h
residue_small m (negsuc n) h = omega arith

either_small : (b : Bool) (x y m : ℕ) → x < m → y < m → cond b x y < m
either_small true x y m h k = h
either_small false x y m h k = k

or_small : (width : Width) (a b : ℕ) → a < modulus width → b < modulus width → bit_or a b < modulus width
or_small Bits32 a b h k = or_lt 32 a b h k
or_small Bits64 a b h k = or_lt 64 a b h k

xor_small : (width : Width) (a b : ℕ) → a < modulus width → b < modulus width → bit_xor a b < modulus width
xor_small Bits32 a b h k = xor_lt 32 a b h k
xor_small Bits64 a b h k = xor_lt 64 a b h k

below : (x a m : ℕ) → x ≤ a → a < m → x < m
below x a m h k = omega arith

alu_low_small : (op : AluOp) (width : Width) (a b : ℕ) → a < modulus width → b < modulus width → alu_low op width a b < modulus width
alu_low_small Add width a b h k = mod_below _ (modulus width) (modulus_positive width)
alu_low_small Sub width a b h k = mod_below _ (modulus width) (modulus_positive width)
alu_low_small Mul width a b h k = mod_below _ (modulus width) (modulus_positive width)
alu_low_small Div width a b h k = either_small (eqb b 0) 0 (a / b) (modulus width) (modulus_positive width) (below (a / b) a (modulus width) (div-le_self a b) h)
alu_low_small SignedDiv width a b h k = either_small (eqb b 0) 0 _ (modulus width) (modulus_positive width) (residue_small (modulus width) _ (modulus_positive width))
alu_low_small Or width a b h k = or_small width a b h k
alu_low_small And width a b h k = below (bit_and a b) a (modulus width) (and_le_l a b) h
alu_low_small Lsh width a b h k = mod_below _ (modulus width) (modulus_positive width)
alu_low_small Rsh width a b h k = below (a / 2 ^ (b % bits_of width)) a (modulus width) (div-le_self a (2 ^ (b % bits_of width))) h
alu_low_small Mod width a b h k = either_small (eqb b 0) a (a % b) (modulus width) h (below (a % b) a (modulus width) (mod-le a b) h)
alu_low_small SignedMod width a b h k = either_small (eqb b 0) a _ (modulus width) h (residue_small (modulus width) _ (modulus_positive width))
alu_low_small Xor width a b h k = xor_small width a b h k
alu_low_small Mov width a b h k = k
alu_low_small Arsh width a b h k = residue_small (modulus width) _ (modulus_positive width)

pub results_small : (op : AluOp) (width : Width) (a b : ℕ) → a < 2 ^ 64 → b < 2 ^ 64 → alu_words op width a b < modulus width
results_small op width a b h k = alu_low_small op width (low_part width a) (low_part width b) (low_small width a h) (low_small width b k)
