-- Plain words: what is printed between spaces, commas and line ends.
use Rattle.std.proofs.Common.{◌≡◌, ℕ, ◌<◌, ◌≤◌, true, List, [], ◌∷◌, ◌++◌, refl, ap, ◌∙◌, arith, ne_eqb}
use Rattle.std.specs.Prelude.{◌≢◌, ◌==◌, not}
use Rattle.std.specs.List.{list_all}
use Rattle.std.specs.Char.{digit_value}
use Rattle.std.specs.Str.Parse.{AllDigits, IsNumeral}
use Rattle.std.proofs.lemmas.Bool.{and_from, and_parts}
use Rattle.std.proofs.lemmas.List.Folds.{list_all-append}
use Rattle.basm_lex.specs.Printed.{IsWord, is_plain}

abbrev pub ArePlain : List ℕ → Type 0
ArePlain word = list_all is_plain word ≡ true

pub plain_word : (word : List ℕ) → IsWord word → ArePlain word
plain_word [] is = absurd (cc)
plain_word (c ∷ cs) is = is

plain_append : (xs ys : List ℕ) → ArePlain xs → ArePlain ys → ArePlain (xs ++ ys)
plain_append xs ys plain more = list_all-append is_plain xs ys ∙ and_from _ _ plain more

pub word_append : (xs ys : List ℕ) → IsWord xs → ArePlain ys → IsWord (xs ++ ys)
word_append [] ys is more = absurd (cc)
word_append (c ∷ cs) ys is more =
    let parts = and_parts (is_plain c) (list_all is_plain cs) is in
    and_from _ _ parts.0 (plain_append cs ys parts.1 more)

pub plain_before : (xs ys : List ℕ) → ArePlain xs → IsWord ys → IsWord (xs ++ ys)
plain_before [] ys plain is = is
plain_before (x ∷ xs) ys plain is =
    let parts = and_parts (is_plain x) (list_all is_plain xs) plain in
    and_from _ _ parts.0 (plain_append xs ys parts.1 (plain_word ys is))

-- ---- digits are plain

not_digit : (radix c other : ℕ) → radix ≤ 36 → digit_value c < radix → digit_value other ≡ 36 → not (c == other) ≡ true
not_digit radix c other small digit none =
    let apart : c ≢ other = λ same. let value : digit_value c ≡ digit_value other = ap digit_value same in omega arith in
    ap not (ne_eqb c other apart)

plain_digit : (radix c : ℕ) → radix ≤ 36 → digit_value c < radix → is_plain c ≡ true
plain_digit radix c small digit =
    and_from _ _ (not_digit radix c 10 small digit refl)
    (and_from _ _ (not_digit radix c 32 small digit refl)
    (and_from _ _ (not_digit radix c 44 small digit refl) (not_digit radix c 59 small digit refl)))

plain_digits : (radix : ℕ) → radix ≤ 36 → (ds : List ℕ) → AllDigits radix ds → ArePlain ds
plain_digits radix small [] digits = refl
plain_digits radix small (d ∷ ds) digits = and_from _ _ (plain_digit radix d small digits.0) (plain_digits radix small ds digits.1)

pub word_numeral : (radix : ℕ) → radix ≤ 36 → (ds : List ℕ) → IsNumeral radix ds → IsWord ds
word_numeral radix small [] numeral = absurd (omega (arith, numeral.0))
word_numeral radix small (d ∷ ds) numeral =
    and_from _ _ (plain_digit radix d small numeral.1.0) (plain_digits radix small ds numeral.1.1)
