-- What `parse` and `from_str_radix` give of words that are known to be digits.
use Rattle.std.proofs.Common.{◌≡◌, ℕ, ◌<◌, ◌≤◌, List, [], ◌∷◌, ◌++◌, drop, cond, false, refl, sym, ap, ◌∙◌, subst, arith, ne_eqb}
use Rattle.std.specs.Prelude.{◌≢◌, ◌==◌, slice_index}
use Rattle.std.proofs.lemmas.Bool.{cases_Bool}
use Rattle.std.proofs.Common.{inl, inr}
use Rattle.std.specs.Char.{digit_value}
use Rattle.std.specs.Str.Parse.{IsNumeral, starts_with_minus, without_leading_plus, signed_digits_value}
use Rattle.std.specs.Str.Pattern.{FindsTextPrefix, StripsPrefix}
use Rattle.basm_lex.specs.Numbers.{IsDecimal, decimal_value}

-- digits do not begin with a plus
no_plus : (radix : ℕ) → radix ≤ 36 → (word : List ℕ) → IsNumeral radix word → (slice_index word 0 == 43) ≡ false
no_plus radix small [] numeral = absurd (omega (arith, numeral.0))
no_plus radix small (c ∷ cs) numeral =
    ne_eqb c 43 (λ same. let P : ℕ → Type 0 = λ d. digit_value d < radix in
    let digit : 36 < radix = subst P same numeral.1.0 in omega arith)

pub plain : (radix : ℕ) → radix ≤ 36 → (word : List ℕ) → IsNumeral radix word → without_leading_plus word ≡ word
plain radix small word numeral = rw (no_plus radix small word numeral)

pub signed_is : (word : List ℕ) → IsDecimal word → signed_digits_value 10 word ≡ decimal_value word
signed_is word decimal = elim (cases_Bool (starts_with_minus word)) [
  | inl minus ↦ rw minus
  | inr other ↦ let numeral = rw other at decimal in rw (other, plain 10 (omega arith) word numeral)
]

-- a word that begins with a minus, and one that does not
pub with_minus : (word digits : List ℕ) → word ≡ 45 ∷ digits → cond (starts_with_minus word) (drop 1 word) word ≡ digits
with_minus word digits same = rw same

pub without_minus : (word : List ℕ) → ((rest : List ℕ) → word ≢ 45 ∷ rest) → cond (starts_with_minus word) (drop 1 word) word ≡ word
without_minus [] other = refl
without_minus (c ∷ cs) other = rw (ne_eqb c 45 (λ same. other cs (ap (λ x. x ∷ cs) same)))

-- the rest of a word after a text
pub following : (front word rest : List ℕ) → StripsPrefix (FindsTextPrefix front) word rest → word ≡ front ++ rest
following front word rest strips = strips.1.1 ∙ ap (λ x. front ++ x) (sym strips.2)
