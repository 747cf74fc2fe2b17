-- What readers give of words that are known to write.
use Rattle.std.proofs.Common.{◌≡◌, ℕ, ◌<◌, ◌≤◌, ◌^◌, ℤ, pos, List, ◌∷◌, ◌++◌, length, inl, inr, sym, subst, to_z, of_z, arith}
use Rattle.std.proofs.Math.Nat.{pow-le-pow_right}
use Rattle.std.specs.Prelude.{◌≢◌, neg_ℤ, ◌≤ℤ◌, codes, FitsSigned, Ok, Err}
use Rattle.std.specs.Int.{w16, w32}
use Rattle.std.specs.Str.Parse.{digits_value}
use Rattle.std.proofs.lemmas.Int.{ints, to_z-of_z}
use Rattle.std.proofs.lemmas.Int.Digits.{digits_value-lt}
use Rattle.std.specs.declared.result.Result.{Result}
use Rattle.basm_lex.specs.Numbers.{IsHexadecimal, WritesDistance, WritesMagnitude, WritesWide, WritesWideDecimal}

-- `most` hexadecimal digits write a number below a power of 16
pub hexadecimal_low : (most : ℕ) (digits : List ℕ) → IsHexadecimal most digits → digits_value 16 digits < 16 ^ most
hexadecimal_low most digits hex =
    let below : digits_value 16 digits < 16 ^ length digits = digits_value-lt 16 digits hex.0.1 in
    let more : 16 ^ length digits ≤ 16 ^ most = pow-le-pow_right (omega arith) hex.1 in
    omega arith

-- a word that is no bits is read as a decimal
pub wide_at_decimal : {E : Type 0} (word : List ℕ) (r : Result ℕ E) → ((rest : List ℕ) → word ≢ codes "0x" ++ rest) → ((value : ℕ) → WritesWideDecimal word value → r ≡ Ok value)
    → (value : ℕ) → WritesWide word value → r ≡ Ok value
wide_at_decimal word r other read value (inl w) = read value (inl w)
wide_at_decimal word r other read value (inr (inl w)) = read value (inr w)
wide_at_decimal word r other read value (inr (inr bits)) = absurd (other bits.digits bits.prefix)

-- texts that begin alike
pub first_same : (a b : ℕ) (xs ys : List ℕ) → a ∷ xs ≡ b ∷ ys → a ≡ b
first_same a b xs ys same = cc

rest_same : (a b : ℕ) (xs ys : List ℕ) → a ∷ xs ≡ b ∷ ys → xs ≡ ys
rest_same a b xs ys same = cc

-- the text after the sign of a distance
pub after_plus : (digits : List ℕ) (value : ℤ) → WritesDistance (43 ∷ digits) value → WritesMagnitude digits value
after_plus digits value (inl f) = subst (λ d. WritesMagnitude d value) (sym (rest_same 43 43 digits f.digits f.signed)) f.magnitude
after_plus digits value (inr b) = absurd (omega (arith, first_same 43 45 digits b.digits b.signed))

pub after_minus : (digits : List ℕ) (value : ℤ) → WritesDistance (45 ∷ digits) value → (forward : ℤ) × WritesMagnitude digits forward × (value ≡ neg_ℤ forward)
after_minus digits value (inl f) = absurd (omega (arith, first_same 45 43 digits f.digits f.signed))
after_minus digits value (inr b) = (b.forward, subst (λ d. WritesMagnitude d b.forward) (sym (rest_same 45 45 digits b.digits b.signed)) b.magnitude, b.negated)

-- a distance begins with a sign
pub signed : (word : List ℕ) (value : ℤ) → ((rest : List ℕ) → word ≢ 43 ∷ rest) → ((rest : List ℕ) → word ≢ 45 ∷ rest) → ¬ WritesDistance word value
signed word value plus minus (inl f) = plus f.digits f.signed
signed word value plus minus (inr b) = minus b.digits b.signed

-- an error is no value
pub no_value : {T E : Type 0} (e : E) (x : T) → Err e ≡ Ok x → ⊥
no_value e x same = cc same

-- if a magnitude is refused, none fits
pub refused_plus : {E : Type 0} (digits : List ℕ) (e : E) → ((value : ℤ) → WritesMagnitude digits value → value ≤ℤ pos 2147483648 → Err e ≡ Ok value)
    → (value : ℤ) → WritesDistance (43 ∷ digits) value → FitsSigned w32 value → ⊥
refused_plus digits e read value w fits = no_value e value (read value (after_plus digits value w) (omega (arith, ints)))

pub refused_minus : {E : Type 0} (digits : List ℕ) (e : E) → ((value : ℤ) → WritesMagnitude digits value → value ≤ℤ pos 2147483648 → Err e ≡ Ok value)
    → (value : ℤ) → WritesDistance (45 ∷ digits) value → FitsSigned w32 value → ⊥
refused_minus digits e read value w fits =
    let back = after_minus digits value w in
    let negated : value ≡ neg_ℤ back.0 = back.2 in
    no_value e back.0 (read back.0 back.1 (omega (arith, ints)))

-- a number that fits 16 bits fits 32
pub fits_more : (value : ℤ) → FitsSigned w16 value → FitsSigned w32 value
fits_more value fits = omega (arith, ints)

-- and a value is the one that is read
pub one_value : {T E : Type 0} (x y : T) → ◌≡◌ {A = Result T E} (Ok x) (Ok y) → x ≡ y
one_value x y same = cc same

pub read_offset : {E : Type 0} (x y : ℤ) → ◌≡◌ {A = Result ℤ E} (Ok x) (Ok y) → FitsSigned w16 y → to_z w16 (of_z w16 x) ≡ y
read_offset x y same fits =
    let one : x ≡ y = one_value x y same in
    subst (λ z. to_z w16 (of_z w16 z) ≡ y) (sym one) (to_z-of_z w16 y fits)
