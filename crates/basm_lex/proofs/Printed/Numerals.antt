-- Printed numbers write themselves.
use Rattle.std.proofs.Common.{◌≡◌, ℕ, zero, suc, ◌+◌, ◌-◌, ◌/◌, ◌%◌, ◌^◌, ◌<◌, ◌≤◌, ℤ, pos, negsuc, false, List, [], ◌∷◌, ◌++◌, length, replicate, inl, inr, refl, sym, ap, ◌∙◌, arith, ne_eqb, lit<, lit≤, length-append}
use Rattle.std.specs.Prelude.{◌==◌, decimal, FitsSigned}
use Rattle.std.specs.Int.{w16, w32}
use Rattle.std.specs.Fmt.{digits, digits_onto, digit_glyph, signed_decimal}
use Rattle.std.specs.Char.{digit_value}
use Rattle.std.specs.Str.Parse.{IsNumeral, digits_value, starts_with_minus}
use Rattle.std.proofs.lemmas.Bool.{cond_both, eqb-false}
use Rattle.std.proofs.Math.ListN.{length-replicate}
use Rattle.std.proofs.lemmas.Fmt.{decimal_is_IsNumeral, digits_is_IsNumeral}
use Rattle.std.proofs.Math.Nat.{pow-suc}
use Rattle.bpf_parts.specs.declared.memory.MemoryOperand.{MemoryOperand}
use Rattle.bpf_insn.specs.Text.{bits_text}
use Rattle.bpf_parts.specs.Text.{memory_operand_text, signed_text}
use Rattle.basm_lex.specs.Numbers.{WritesDecimal, WritesDistance, WritesMagnitude, WritesNumber, WritesWide}
use Rattle.basm_lex.specs.Operands.{WritesMemoryOperand}

-- ---- decimals

-- digits do not begin with a minus
digits_no_minus : (word : List ℕ) → IsNumeral 10 word → starts_with_minus word ≡ false
digits_no_minus [] numeral = absurd (omega (arith, numeral.0))
digits_no_minus (c ∷ cs) numeral =
    ne_eqb c 45 (λ same. let value : digit_value c ≡ 36 = ap digit_value same in let digit : digit_value c < 10 = numeral.1.0 in omega arith)

decimal_writes : (n : ℕ) → n < 2 ^ 64 → WritesDecimal (decimal n) (pos n)
decimal_writes n small =
    let numeral = decimal_is_IsNumeral n small in
    rw (digits_no_minus (decimal n) numeral.0) (numeral.0, ap pos (sym numeral.1))

pub number_writes : (n : ℕ) → n < 2 ^ 31 → WritesNumber (decimal n) (pos n)
number_writes n small = let fits : FitsSigned w32 (pos n) = omega arith in inl (decimal_writes n (omega arith), fits)

pub signed_writes : (z : ℤ) → FitsSigned w32 z → WritesNumber (signed_decimal z) z
signed_writes (pos n) fits = inl (decimal_writes n (omega arith), fits)
signed_writes (negsuc n) fits =
    let numeral = decimal_is_IsNumeral (suc n) (omega arith) in
    inl ((numeral.0, rw numeral.1), fits)

-- ---- distances

magnitude_writes : (n : ℕ) → n < 2 ^ 64 → WritesMagnitude (decimal n) (pos n)
magnitude_writes n small = let numeral = decimal_is_IsNumeral n small in inl (numeral.0, ap pos (sym numeral.1))

pub distance_writes : (z : ℤ) → FitsSigned w32 z → WritesDistance (signed_text z) z
distance_writes (pos n) fits = inl (record { digits = decimal n; signed = refl; magnitude = magnitude_writes n (omega arith) })
distance_writes (negsuc n) fits =
    inr (record { digits = decimal (suc n); forward = pos (suc n); signed = refl; magnitude = magnitude_writes (suc n) (omega arith); negated = refl })

pub short_distance_writes : (z : ℤ) → FitsSigned w16 z → WritesDistance (signed_text z) z
short_distance_writes (pos n) fits = let wide : FitsSigned w32 (pos n) = omega arith in distance_writes (pos n) wide
short_distance_writes (negsuc n) fits = let wide : FitsSigned w32 (negsuc n) = omega arith in distance_writes (negsuc n) wide

-- ---- memory operands

pub place_writes : (place : MemoryOperand) → place.base ≤ 10 → FitsSigned w16 place.offset → WritesMemoryOperand (memory_operand_text place) place
place_writes place small fits =
    record { distance = signed_text place.offset; is_base = small; word_is = refl; writes = short_distance_writes place.offset fits; fits = fits }

-- ---- bits

-- a number below 16 ^ (m + 1) has at most m + 1 digits
length_onto : (k m n : ℕ) (acc : List ℕ) → n < 16 ^ suc m → length (digits_onto k 16 false n acc) ≤ suc m + length acc
length_onto zero m n acc small = omega arith
length_onto (suc k) zero n acc small =
    let glyph = digit_glyph false (n % 16) in
    cond_both (n / 16 == 0) (glyph ∷ acc) (digits_onto k 16 false (n / 16) (glyph ∷ acc)) (λ ds. length ds ≤ 1 + length acc)
    (λ last. omega arith) (λ more. absurd (eqb-false _ _ more (omega arith)))
length_onto (suc k) (suc m) n acc small =
    let glyph = digit_glyph false (n % 16) in
    let front : n / 16 < 16 ^ suc m = omega (arith, pow-suc 16 (suc m)) in
    let shorter = length_onto k m (n / 16) (glyph ∷ acc) front in
    cond_both (n / 16 == 0) (glyph ∷ acc) (digits_onto k 16 false (n / 16) (glyph ∷ acc)) (λ ds. length ds ≤ suc (suc m) + length acc)
    (λ last. omega arith) (λ more. omega arith)

length_hexadecimal : (n : ℕ) → n < 2 ^ 64 → length (digits 16 false n) ≤ 16
unfolding digits
length_hexadecimal n small = let most = length_onto 64 15 n [] small in omega arith

zeros_numeral : (k : ℕ) (ds : List ℕ) → IsNumeral 16 ds → IsNumeral 16 (replicate k 48 ++ ds)
zeros_numeral zero ds numeral = numeral
zeros_numeral (suc k) ds numeral = (omega arith, (lit< tt, (zeros_numeral k ds numeral).1))

zeros_value : (k : ℕ) (ds : List ℕ) → digits_value 16 (replicate k 48 ++ ds) ≡ digits_value 16 ds
zeros_value zero ds = refl
zeros_value (suc k) ds = zeros_value k ds

-- sixteen digits, with zeros before them
abbrev pub padded : ℕ → List ℕ
padded value = replicate (16 - length (digits 16 false value)) 48 ++ digits 16 false value

pub padded_numeral : (value : ℕ) → value < 2 ^ 64 → IsNumeral 16 (padded value)
padded_numeral value small =
    let numeral = digits_is_IsNumeral 16 false (lit≤ tt) (lit≤ tt) value (omega arith) in
    zeros_numeral (16 - length (digits 16 false value)) (digits 16 false value) numeral.0

length_padded : (value : ℕ) → value < 2 ^ 64 → length (padded value) ≤ 16
length_padded value small =
    let most = length_hexadecimal value small in
    simp (length-append, length-replicate) (omega arith)

pub bits_writes : (value : ℕ) → value < 2 ^ 64 → WritesWide (bits_text value) value
bits_writes value small =
    let numeral = digits_is_IsNumeral 16 false (lit≤ tt) (lit≤ tt) value (omega arith) in
    let known = zeros_value (16 - length (digits 16 false value)) (digits 16 false value) ∙ numeral.1 in
    inr (inr (record {
      digits = padded value;
      prefix = refl;
      hexadecimal = (padded_numeral value small, length_padded value small);
      written = sym known;
    }))
