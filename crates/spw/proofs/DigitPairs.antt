-- Pairs of hexadecimal digits, read by a table.
use Rattle.std.proofs.Common.{◌≡◌, ℕ, ◌+◌, ◌*◌, ◌%◌, ◌/◌, ◌<◌, true, min, eqb, List, [], ◌∷◌, length, fold, map, get_or, refl, ap, ap₂, ◌∙◌, arith, zero, suc}
use Rattle.std.specs.Prelude.{bit_or}
use Rattle.std.specs.Char.{digit_value}
use Rattle.std.specs.List.{concat}
use Rattle.std.specs.Str.Parse.{AllDigits}
use Rattle.std.specs.Simd.{first_chunks}
use Rattle.std.proofs.lemmas.Bool.{agree_below_at, eqb-true}
use Rattle.std.proofs.lemmas.Nat.{or_lt, le_or_l, le_or_r}
use Rattle.spw.specs.Line.{bytes_written}
use Rattle.spw.specs.declared.digits.TheConstants.{DIGITS}

-- what a character is as a digit, or 16
abbrev pub digit_of : ℕ → ℕ
digit_of c = min (digit_value c) 16

pub table_entry : (c : ℕ) → c < 256 → get_or DIGITS c 0 ≡ digit_of c
table_entry c below = eqb-true _ _ (agree_below_at (λ d. eqb (get_or DIGITS d 0) (digit_of d)) (λ _. true) 256 c refl below)

-- the byte of a pair, the high half first
abbrev pub byte_of : List ℕ → ℕ
byte_of pair = (digit_of (get_or pair 0 0) * 16 % 256 + digit_of (get_or pair 1 0)) % 256

-- the digits of some pairs and of one more, joined by or
abbrev pub with_pair : ℕ → List ℕ → ℕ
with_pair digits pair = bit_or digits (bit_or (digit_of (get_or pair 0 0)) (digit_of (get_or pair 1 0)))

-- ---- all digits at once

-- no digit has the bit of a character that is none, so the or of some does not have it either
pub or_is_digit : (a b : ℕ) → a < 16 → b < 16 → bit_or a b < 16
or_is_digit a b first second = or_lt 4 a b first second

pub of_or : (a b : ℕ) → bit_or a b < 16 → (a < 16) × (b < 16)
of_or a b below = (omega (arith, below, le_or_l a b), omega (arith, below, le_or_r a b))

pub digit_of-small : (c : ℕ) → digit_value c < 16 → digit_of c < 16
digit_of-small c below = omega (arith, below)

pub of_digit_of : (c : ℕ) → digit_of c < 16 → digit_value c < 16
of_digit_of c below = omega (arith, below)

-- each is a pair
abbrev pub ArePairs : List (List ℕ) → Type 0
ArePairs [] = Unit {0}
ArePairs (pair ∷ pairs) = (length pair ≡ 2) × ArePairs pairs

-- what has two elements at each place is a list of pairs
pub pairs_at : (pairs : List (List ℕ)) → ((i : ℕ) → i < length pairs → length (get_or pairs i []) ≡ 2) → ArePairs pairs
pairs_at [] each = tt
pairs_at (pair ∷ pairs) each = (each 0 (omega arith), pairs_at pairs (λ i below. each (suc i) (omega (arith, below))))

-- the digits of pairs, joined by or, are below 16 exactly if each of them is a digit
pub joined_small : (digits : ℕ) (pairs : List (List ℕ)) → ArePairs pairs → digits < 16 → AllDigits 16 (concat pairs) → fold with_pair digits pairs < 16
joined_small digits [] two small all = small
joined_small digits ([] ∷ pairs) two small all = absurd (omega (arith, two.0))
joined_small digits ((a ∷ []) ∷ pairs) two small all = absurd (omega (arith, two.0))
joined_small digits ((a ∷ b ∷ c ∷ more) ∷ pairs) two small all = absurd (omega (arith, two.0))
joined_small digits ((a ∷ b ∷ []) ∷ pairs) two small all =
    joined_small (with_pair digits (a ∷ b ∷ [])) pairs two.1
    (or_is_digit digits _ small (or_is_digit _ _ (digit_of-small a all.0) (digit_of-small b all.1.0))) all.1.1

pub of_joined : (digits : ℕ) (pairs : List (List ℕ)) → ArePairs pairs → fold with_pair digits pairs < 16 → (digits < 16) × AllDigits 16 (concat pairs)
of_joined digits [] two below = (below, tt)
of_joined digits ([] ∷ pairs) two below = absurd (omega (arith, two.0))
of_joined digits ((a ∷ []) ∷ pairs) two below = absurd (omega (arith, two.0))
of_joined digits ((a ∷ b ∷ c ∷ more) ∷ pairs) two below = absurd (omega (arith, two.0))
of_joined digits ((a ∷ b ∷ []) ∷ pairs) two below =
    let later = of_joined (with_pair digits (a ∷ b ∷ [])) pairs two.1 below in
    let first = of_or digits (bit_or (digit_of a) (digit_of b)) later.0 in
    let own = of_or (digit_of a) (digit_of b) first.1 in
    (first.0, (of_digit_of a own.0, (of_digit_of b own.1, later.1)))

-- if all are digits, the bytes of the pairs are those that they write
pub bytes_are_written : (pairs : List (List ℕ)) → ArePairs pairs → AllDigits 16 (concat pairs) → map byte_of pairs ≡ bytes_written (concat pairs)
bytes_are_written [] two all = refl
bytes_are_written ([] ∷ pairs) two all = absurd (omega (arith, two.0))
bytes_are_written ((a ∷ []) ∷ pairs) two all = absurd (omega (arith, two.0))
bytes_are_written ((a ∷ b ∷ c ∷ more) ∷ pairs) two all = absurd (omega (arith, two.0))
bytes_are_written ((a ∷ b ∷ []) ∷ pairs) two all =
    let byte : byte_of (a ∷ b ∷ []) ≡ digit_value a * 16 + digit_value b = omega (arith, all.0, all.1.0) in
    ap₂ (λ (x : ℕ) (xs : List ℕ). x ∷ xs) byte (bytes_are_written pairs two.1 all.1.1)

-- a word is its pairs, if its length is even
pub concat_pairs : (k : ℕ) (word : List ℕ) → k * 2 ≡ length word → concat (first_chunks 2 k word) ≡ word
concat_pairs zero [] fits = refl
concat_pairs zero (a ∷ word) fits = absurd (omega (arith, fits))
concat_pairs (suc k) [] fits = absurd (omega (arith, fits))
concat_pairs (suc k) (a ∷ []) fits = absurd (omega (arith, fits))
concat_pairs (suc k) (a ∷ b ∷ word) fits = ap (λ (xs : List ℕ). a ∷ b ∷ xs) (concat_pairs k word (omega (arith, fits)))

-- the pairs of a word whose length is even
pub word_of_pairs : (word bytes : List ℕ) (pairs : List (List ℕ)) → bytes ≡ word → pairs ≡ first_chunks 2 (length bytes / 2) bytes → length word % 2 ≡ 0
    → concat pairs ≡ word
word_of_pairs word bytes pairs same cut even =
    ap concat (cut ∙ ap (λ (xs : List ℕ). first_chunks 2 (length xs / 2) xs) same) ∙ concat_pairs (length word / 2) word (omega (arith, even))
