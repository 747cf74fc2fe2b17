-- Words of digits.
use Rattle.std.specs.Prelude.{min, nat_le}
use Rattle.std.proofs.Common.{◌≡◌, ◌≢◌, ◌≤◌, ◌<◌, ◌+◌, ◌^◌, ◌&&◌, ℕ, Bool, true, false, List, [], ◌∷◌, length, get_or, Result, Ok, Err, MatchOption, refl, ap, subst, ◌∙◌, arith}
use Rattle.std.proofs.Common.{inl, inr}
use Rattle.std.proofs.lemmas.Bool.{cases_lt, leb-true, le-leb}
use Rattle.std.proofs.lemmas.Int.Digits.{digits_value-lt}
use Rattle.std.proofs.lemmas.Str.{digit_value_digit}
use Rattle.std.proofs.lemmas.Str.Parse.{digit_from_value, without_leading_plus_none}
use Rattle.std.specs.Char.{digit_value, is_ascii_digit}
use Rattle.std.specs.List.{list_all}
use Rattle.std.specs.Result.{OkIff, result_ok, result_unwrap_or}
use Rattle.std.specs.Str.Parse.{AllDigits, IsNumeral, ParsesUnsigned, digits_value}
use Rattle.policy_table.specs.Fields.{WritesCount, WritesHex}

-- what a text without a plus parses to
plain : {E : Type 0} (k radix : ℕ) (word : List ℕ) (r : Result ℕ E) → get_or word 0 0 ≢ 43 → ParsesUnsigned k radix word r
    → OkIff r (IsNumeral radix word × (digits_value radix word < 2 ^ k)) (digits_value radix word)
plain {E} k radix word r front parses =
    subst (λ (w : List ℕ). OkIff r (IsNumeral radix w × (digits_value radix w < 2 ^ k)) (digits_value radix w)) (without_leading_plus_none word front) parses

-- ---- hexadecimal

hex_cases : {E : Type 0} (digits k : ℕ) (word : List ℕ) (r : Result ℕ E) → length word ≡ digits → 0 < digits → 16 ^ digits ≡ 2 ^ k
    → OkIff r (IsNumeral 16 word × (digits_value 16 word < 2 ^ k)) (digits_value 16 word)
    → MatchOption (result_ok r) ((n : ℕ) → ¬ WritesHex digits word n) (WritesHex digits word)
hex_cases digits k word (Ok x) len some same h = (len, h.0.0.1, h.1)
hex_cases digits k word (Err e) len some same h = λ n writes.
    let below : digits_value 16 word < 16 ^ length word = digits_value-lt 16 word writes.1 in
    let power : 16 ^ length word ≡ 2 ^ k = ap (λ (d : ℕ). 16 ^ d) len ∙ same in
    let one : 0 < length word = omega (arith, len, some) in
    h ((one, writes.1), subst (λ (top : ℕ). digits_value 16 word < top) power below)

-- this many hexadecimal digits are read
pub reads_hex : {E : Type 0} (digits k : ℕ) (word : List ℕ) (r : Result ℕ E) → length word ≡ digits → get_or word 0 0 ≢ 43 → 0 < digits → 16 ^ digits ≡ 2 ^ k
    → ParsesUnsigned k 16 word r → MatchOption (result_ok r) ((n : ℕ) → ¬ WritesHex digits word n) (WritesHex digits word)
reads_hex digits k word r len front some same parses =
    hex_cases digits k word r len some same (plain k 16 word r front parses)

-- ---- decimal

first_true : (a b : Bool) → (a && b) ≡ true → a ≡ true
first_true true b e = refl
first_true false b e = e

second_true : (a b : Bool) → (a && b) ≡ true → b ≡ true
second_true true b e = e
second_true false b e = cc

both_true : (a b : Bool) → a ≡ true → b ≡ true → (a && b) ≡ true
both_true true b e f = f
both_true false b e f = e

digit_of : (c : ℕ) → is_ascii_digit c ≡ true → digit_value c < 10
digit_of c e =
    let low : 48 ≤ c = leb-true 48 c (first_true (nat_le 48 c) (nat_le c 57) e) in
    let high : c ≤ 57 = leb-true c 57 (second_true (nat_le 48 c) (nat_le c 57) e) in
    let value : digit_value c + 48 ≡ c = digit_value_digit c (low, high) in
    omega (arith, value, high)

of_digit : (c : ℕ) → digit_value c < 10 → is_ascii_digit c ≡ true
of_digit c h =
    let range = digit_from_value c h in
    both_true (nat_le 48 c) (nat_le c 57) (le-leb 48 c range.0) (le-leb c 57 range.1)

-- a text of only digits
pub digits_of : (word : List ℕ) → list_all is_ascii_digit word ≡ true → AllDigits 10 word
digits_of [] e = tt
digits_of (c ∷ word) e =
    (digit_of c (first_true (is_ascii_digit c) (list_all is_ascii_digit word) e), digits_of word (second_true (is_ascii_digit c) (list_all is_ascii_digit word) e))

pub of_digits : (word : List ℕ) → AllDigits 10 word → list_all is_ascii_digit word ≡ true
of_digits [] h = refl
of_digits (c ∷ word) h =
    both_true (is_ascii_digit c) (list_all is_ascii_digit word) (of_digit c h.0) (of_digits word h.1)

-- digits do not begin with a plus
no_plus : (word : List ℕ) → AllDigits 10 word → get_or word 0 0 ≢ 43
no_plus [] h = λ e. absurd (omega (arith, e))
no_plus (c ∷ word) h = λ e.
    let range = digit_from_value c h.0 in
    let low : 48 ≤ c = range.0 in
    absurd (omega (arith, e, low))

-- a number that is not below the greatest
large : (n : ℕ) → (n < 2 ^ 32 → ⊥) → 4294967295 ≡ min n 4294967295
large n above = elim (cases_lt n (2 ^ 32)) [
  | inl below ↦ absurd (above below)
  | inr other ↦ omega (arith, other)
]

count_cases : {E : Type 0} (word : List ℕ) (r : Result ℕ E) → IsNumeral 10 word
    → OkIff r (IsNumeral 10 word × (digits_value 10 word < 2 ^ 32)) (digits_value 10 word)
    → result_unwrap_or r 4294967295 ≡ min (digits_value 10 word) 4294967295
count_cases word (Ok x) numeral h =
    let below : digits_value 10 word < 2 ^ 32 = h.0.1 in
    let same : x ≡ digits_value 10 word = h.1 in
    omega (arith, below, same)
count_cases word (Err e) numeral h = large (digits_value 10 word) (λ below. h (numeral, below))

-- a text of digits is read, or is kept as the greatest number
pub reads_count : {E : Type 0} (word : List ℕ) (r : Result ℕ E) (n : ℕ) → 0 < length word → list_all is_ascii_digit word ≡ true
    → ParsesUnsigned 32 10 word r → n ≡ result_unwrap_or r 4294967295 → WritesCount word n
reads_count word r n some alone parses is =
    let digits = digits_of word alone in
    ((some, digits), is ∙ count_cases word r (some, digits) (plain 32 10 word r (no_plus word digits) parses))
