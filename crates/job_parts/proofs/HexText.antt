-- The hexadecimal text of bytes, byte by byte and in parts.
use Rattle.std.proofs.Common.{◌≡◌, ◌*◌, ℕ, List, [], ◌∷◌, ◌++◌, length, take, refl, sym, ap, ◌∙◌, arith}
use Rattle.std.specs.Prelude.{◌/◌, ◌%◌, slice_index}
use Rattle.std.proofs.Math.Seq.{take-append_seam}
use Rattle.hex.specs.Hex.{encode_upper, encode_with, upper_digits}

-- The text of no bytes.
pub no_digits : encode_upper [] ≡ []
unfolding encode_with
no_digits = refl

-- Two parts.
pub digits_both : (front following : List ℕ) → encode_upper (front ++ following) ≡ encode_upper front ++ encode_upper following
unfolding encode_with
digits_both [] following = refl
digits_both (first ∷ front) following = ap (λ (text : List ℕ). encode_upper (first ∷ []) ++ text) (digits_both front following)

-- One byte.
pub one_byte : (byte : ℕ) → encode_upper (byte ∷ []) ≡ slice_index upper_digits (byte / 16) ∷ slice_index upper_digits (byte % 16) ∷ []
unfolding encode_with
one_byte byte = refl

-- The text of bytes is twice as long.
pub text_long : (bytes : List ℕ) → length (encode_upper bytes) ≡ 2 * length bytes
unfolding encode_with
text_long [] = refl
text_long (byte ∷ bytes) =
    let rest = text_long bytes in
    omega (arith, rest)

-- The text of the bytes at the front of some.
pub text_of_front : (front following all : List ℕ) → all ≡ encode_upper (front ++ following) → take (2 * length front) all ≡ encode_upper front
text_of_front front following all is =
    ap (λ (n : ℕ). take n all) (sym (text_long front)) ∙ ap (λ (text : List ℕ). take (length (encode_upper front)) text) (is ∙ digits_both front following)
    ∙ take-append_seam (encode_upper front) (encode_upper following)
