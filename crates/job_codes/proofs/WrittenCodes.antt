-- A text that writes a code has the code's number after its letters.
use Rattle.std.proofs.Common.{◌≡◌, ◌<◌, ◌^◌, ℕ, List, [], ◌∷◌, ◌++◌, drop, map, refl, sym, ap, ap₂, ◌∙◌, arith}
use Rattle.std.specs.Prelude.{decimal}
use Rattle.std.specs.Char.{digit_value, to_ascii_lowercase}
use Rattle.std.specs.Str.Parse.{AllDigits}
use Rattle.std.proofs.lemmas.Fmt.{decimal_is_IsNumeral}
use Rattle.std.proofs.lemmas.List.{append_cancel_left, map-append}
use Rattle.job_codes.specs.Topics.{IsWritten}

-- a decimal digit has no case
lower_digit : (c : ℕ) → digit_value c < 10 → to_ascii_lowercase c ≡ c
lower_digit c digit = grind arith

lower_digits : (digits : List ℕ) → AllDigits 10 digits → map to_ascii_lowercase digits ≡ digits
lower_digits [] all = refl
lower_digits (c ∷ digits) all = ap₂ (λ (d : ℕ) (ds : List ℕ). d ∷ ds) (lower_digit c all.0) (lower_digits digits all.1)

pub written_after : (word text : List ℕ) (n : ℕ) → n < 2 ^ 8 → IsWritten (word ++ decimal n) text → map to_ascii_lowercase text ≡ map to_ascii_lowercase word ++ decimal n
written_after word text n small written =
    sym written ∙ map-append to_ascii_lowercase word (decimal n)
    ∙ ap (λ (ds : List ℕ). map to_ascii_lowercase word ++ ds) (lower_digits (decimal n) (decimal_is_IsNumeral n (omega (arith, small))).0.1)

-- What comes after the letters is the rest of the text.
pub rest_after : (text front digits rest : List ℕ) (k : ℕ) → rest ≡ drop k text → text ≡ front ++ drop k text → text ≡ front ++ digits → rest ≡ digits
rest_after text front digits rest k is split whole = is ∙ append_cancel_left front (drop k text) digits (sym split ∙ whole)
