-- Fields and bytes determine each other: fields that are read from a slot have its bytes, and bytes of fields are
-- read as these.
use Rattle.std.proofs.Common.{◌≡◌, ℕ, zero, suc, ◌+◌, ◌*◌, ◌/◌, ◌%◌, ◌<◌, ℤ, List, [], ◌∷◌, length, get_or, refl, arith, FitsSigned, lit<}
use Rattle.std.specs.Int.{w16, w32, cast_signed, cast_unsigned, to_le_bytes, from_le_bytes}
use Rattle.std.proofs.lemmas.Int.{of_z-to_z, to_z-of_z}
use Rattle.std.proofs.lemmas.Nat.{le_bytes_2, le_bytes_4, from_le_bytes-to_le_bytes_2, from_le_bytes-to_le_bytes_4}
use Rattle.std.proofs.Math.Facts.{Fits-of_z}
use Rattle.bpf_insn.specs.declared.fields.Fields.{Fields}
use Rattle.bpf_insn.specs.Spelling.{fields, slot_bytes_of, FieldsFit}
use Rattle.bpf_insn.specs.Reading.{fields_in}

bytes_below : {P : ℕ → Type 0} → ((i : ℕ) → P i) → (i : ℕ) → P i
bytes_below h i = h i

two_bytes : (a b : ℕ) → a < 256 → b < 256 → to_le_bytes w16 (cast_unsigned w16 (cast_signed w16 (a + b * 256))) ≡ a ∷ b ∷ []
two_bytes a b ha hb =
    rw (of_z-to_z w16 (a + b * 256) (omega arith)) (le_bytes_2 (a ∷ b ∷ []) (a + b * 256) refl (below_2 a b ha hb) refl)
  where
    below_2 : (a b : ℕ) → a < 256 → b < 256 → (i : ℕ) → get_or (a ∷ b ∷ []) i 0 < 256
    below_2 a b ha hb zero = ha
    below_2 a b ha hb (suc zero) = hb
    below_2 a b ha hb (suc (suc i)) = lit< tt

four_bytes : (a b c d : ℕ) → a < 256 → b < 256 → c < 256 → d < 256 → to_le_bytes w32 (cast_unsigned w32 (cast_signed w32 (a + b * 256 + c * 65536 + d * 16777216))) ≡ a ∷ b ∷ c ∷ d ∷ []
four_bytes a b c d ha hb hc hd =
    rw (of_z-to_z w32 (a + b * 256 + c * 65536 + d * 16777216) (omega arith)) (le_bytes_4 (a ∷ b ∷ c ∷ d ∷ []) (a + b * 256 + c * 65536 + d * 16777216) refl (below_4 a b c d ha hb hc hd) refl)
  where
    below_4 : (a b c d : ℕ) → a < 256 → b < 256 → c < 256 → d < 256 → (i : ℕ) → get_or (a ∷ b ∷ c ∷ d ∷ []) i 0 < 256
    below_4 a b c d ha hb hc hd zero = ha
    below_4 a b c d ha hb hc hd (suc zero) = hb
    below_4 a b c d ha hb hc hd (suc (suc zero)) = hc
    below_4 a b c d ha hb hc hd (suc (suc (suc zero))) = hd
    below_4 a b c d ha hb hc hd (suc (suc (suc (suc i)))) = lit< tt

-- the bytes of the fields of eight bytes
eight_bytes : (x0 x1 x2 x3 x4 x5 x6 x7 : ℕ) → x2 < 256 → x3 < 256 → x4 < 256 → x5 < 256 → x6 < 256 → x7 < 256 → slot_bytes_of (fields_in (x0 ∷ x1 ∷ x2 ∷ x3 ∷ x4 ∷ x5 ∷ x6 ∷ x7 ∷ [])) ≡ x0 ∷ x1 ∷ x2 ∷ x3 ∷ x4 ∷ x5 ∷ x6 ∷ x7 ∷ []
unfolding slot_bytes_of
eight_bytes x0 x1 x2 x3 x4 x5 x6 x7 h2 h3 h4 h5 h6 h7 =
    let registers : x1 % 16 + x1 / 16 * 16 ≡ x1 = omega arith in
    let low = two_bytes x2 x3 h2 h3 in
    let high = four_bytes x4 x5 x6 x7 h4 h5 h6 h7 in
    cc

-- a slot is the bytes of the fields that it holds
pub slot_bytes_of-fields_in : (bytes : List ℕ) → length bytes ≡ 8 → ((i : ℕ) → get_or bytes i 0 < 256) → slot_bytes_of (fields_in bytes) ≡ bytes
slot_bytes_of-fields_in [] e below = absurd (omega (arith, e))
slot_bytes_of-fields_in (x0 ∷ []) e below = absurd (omega (arith, e))
slot_bytes_of-fields_in (x0 ∷ x1 ∷ []) e below = absurd (omega (arith, e))
slot_bytes_of-fields_in (x0 ∷ x1 ∷ x2 ∷ []) e below = absurd (omega (arith, e))
slot_bytes_of-fields_in (x0 ∷ x1 ∷ x2 ∷ x3 ∷ []) e below = absurd (omega (arith, e))
slot_bytes_of-fields_in (x0 ∷ x1 ∷ x2 ∷ x3 ∷ x4 ∷ []) e below = absurd (omega (arith, e))
slot_bytes_of-fields_in (x0 ∷ x1 ∷ x2 ∷ x3 ∷ x4 ∷ x5 ∷ []) e below = absurd (omega (arith, e))
slot_bytes_of-fields_in (x0 ∷ x1 ∷ x2 ∷ x3 ∷ x4 ∷ x5 ∷ x6 ∷ []) e below = absurd (omega (arith, e))
slot_bytes_of-fields_in (x0 ∷ x1 ∷ x2 ∷ x3 ∷ x4 ∷ x5 ∷ x6 ∷ x7 ∷ []) e below =
    eight_bytes x0 x1 x2 x3 x4 x5 x6 x7 (below 2) (below 3) (below 4) (below 5) (below 6) (below 7)
slot_bytes_of-fields_in (x0 ∷ x1 ∷ x2 ∷ x3 ∷ x4 ∷ x5 ∷ x6 ∷ x7 ∷ x8 ∷ rest) e below = absurd (omega (arith, e))

read_offset : (z : ℤ) → FitsSigned w16 z → cast_signed w16 (from_le_bytes w16 (to_le_bytes w16 (cast_unsigned w16 z))) ≡ z
read_offset z fits = rw (from_le_bytes-to_le_bytes_2 (cast_unsigned w16 z) (Fits-of_z fits).fits) (to_z-of_z w16 z fits)

read_immediate : (z : ℤ) → FitsSigned w32 z → cast_signed w32 (from_le_bytes w32 (to_le_bytes w32 (cast_unsigned w32 z))) ≡ z
read_immediate z fits = rw (from_le_bytes-to_le_bytes_4 (cast_unsigned w32 z) (Fits-of_z fits).fits) (to_z-of_z w32 z fits)

same : (opcode d d' s s' : ℕ) (o o' i i' : ℤ) → d ≡ d' → s ≡ s' → o ≡ o' → i ≡ i' → fields opcode d s o i ≡ fields opcode d' s' o' i'
same opcode d d' s s' o o' i i' p q r t = cc

-- fields are what their bytes hold
pub fields_in-slot_bytes_of : (f : Fields) → FieldsFit f → fields_in (slot_bytes_of f) ≡ f
unfolding slot_bytes_of
fields_in-slot_bytes_of f fit =
    same f.opcode _ f.dst _ f.src _ f.offset _ f.immediate
    (omega (arith, fit.dst)) (omega (arith, fit.dst, fit.src)) (read_offset f.offset fit.offset) (read_immediate f.immediate fit.immediate)

-- the same of the fields that a slot was read as
pub slot_bytes_of-read : (bytes : List ℕ) (f : Fields) → f ≡ fields_in bytes → length bytes ≡ 8 → ((i : ℕ) → get_or bytes i 0 < 256) → slot_bytes_of f ≡ bytes
slot_bytes_of-read bytes f e len below = rw e (slot_bytes_of-fields_in bytes len below)
