-- Marks and the bits of their words.
use Rattle.std.proofs.Common.{◌≡◌, ℕ, zero, suc, ◌-◌, ◌*◌, ◌/◌, ◌%◌, ◌^◌, ◌≤◌, ◌<◌, min, false, ◌&&◌, ◌==◌, List, [], ◌∷◌, length, get_or, set, refl, sym, ap, ◌∙◌, arith, inl, inr, replicate}
use Rattle.std.proofs.lemmas.Bool.{cases_lt}
use Rattle.std.proofs.lemmas.List.{get_or_append_left, get_or-append_right, get_or_past, get_or-replicate, length-append}
use Rattle.std.proofs.lemmas.Nat.Bits.{bit_at_lowest, bit_at-suc, bit_at-zero, bit_at_and, bit_at-lt}
use Rattle.std.specs.Int.{bit_at}
use Rattle.std.specs.Int.Bits.{bit_and}
use Rattle.absdom_stack.specs.Marks.{mark_at}
use Rattle.absdom_stack.specs.Bits.{bits_of_word, is_bit, marks_of, length-bits}

pub length-marks : (words : List ℕ) → length (marks_of words) ≡ 64 * length words
unfolding marks_of
length-marks [] = refl
length-marks (word ∷ words) =
    length-append (bits_of_word 64 word) (marks_of words) ∙ omega (arith, length-bits 64 word, length-marks words)

bit_of : (count word i : ℕ) → i < count → get_or (bits_of_word count word) i false ≡ is_bit word i
unfolding bits_of_word
bit_of zero word i h = absurd (omega arith)
bit_of (suc count) word zero h = ap (λ x. x == 1) (sym (bit_at_lowest word))
bit_of (suc count) word (suc i) h = bit_of count (word / 2) i (omega arith) ∙ ap (λ x. x == 1) (sym (bit_at-suc word i))

-- the mark of a place is the bit of its word
pub mark_of : (words : List ℕ) (place : ℕ) → mark_at (marks_of words) place ≡ is_bit (get_or words (place / 64) 0) (place % 64)
unfolding marks_of
mark_of [] place = ap (λ x. x == 1) (sym (bit_at-zero (place % 64)))
mark_of (word ∷ words) place = elim (cases_lt place 64) [
  | inl below ↦
      let first : place / 64 ≡ 0 = omega arith in
      let same : place % 64 ≡ place = omega arith in
      let inside : place < length (bits_of_word 64 word) = omega (arith, length-bits 64 word) in
      get_or_append_left (bits_of_word 64 word) (marks_of words) false place inside ∙ bit_of 64 word place below
      ∙ ap (λ i. is_bit word i) (sym same) ∙ ap (λ k. is_bit (get_or (word ∷ words) k 0) (place % 64)) (sym first)
  | inr past ↦
      let later : place / 64 ≡ suc ((place - 64) / 64) = omega arith in
      let same : place % 64 ≡ (place - 64) % 64 = omega arith in
      get_or-append_right (bits_of_word 64 word) (marks_of words) 64 place false (length-bits 64 word) past ∙ mark_of words (place - 64)
      ∙ ap (λ i. is_bit (get_or words ((place - 64) / 64) 0) i) (sym same) ∙ ap (λ k. is_bit (get_or (word ∷ words) k 0) (place % 64)) (sym later)
]

-- each word is a word after one is written
pub each_after : (words : List ℕ) (written word : ℕ) → word < 2 ^ 64 → ((k : ℕ) → get_or words k 0 < 2 ^ 64) → (k : ℕ) → get_or (set words written word) k 0 < 2 ^ 64
each_after [] written word h each k = each k
each_after (w ∷ words) zero word h each zero = h
each_after (w ∷ words) zero word h each (suc k) = each (suc k)
each_after (w ∷ words) (suc written) word h each zero = each zero
each_after (w ∷ words) (suc written) word h each (suc k) = each_after words written word h (λ j. each (suc j)) k

-- a bit of both words
pub bit_of_both : (a b i : ℕ) → is_bit (bit_and a b) i ≡ (is_bit a i && is_bit b i)
bit_of_both a b i = ap (λ x. x == 1) (bit_at_and a b i) ∙ least (bit_at a i) (bit_at b i) (bit_at-lt a i) (bit_at-lt b i)
  where
    least : (x y : ℕ) → x < 2 → y < 2 → (min x y == 1) ≡ ((x == 1) && (y == 1))
    least zero zero h g = refl
    least zero (suc zero) h g = refl
    least (suc zero) zero h g = refl
    least (suc zero) (suc zero) h g = refl
    least (suc (suc x)) y h g = absurd (omega arith)
    least zero (suc (suc y)) h g = absurd (omega arith)
    least (suc zero) (suc (suc y)) h g = absurd (omega arith)

-- the marks of words each of which has the bits of both
pub marks_joined : (old other new : List ℕ) → length old ≡ 8 → length other ≡ 8 → length new ≡ 8 → ((k : ℕ) → k < 8 → get_or new k 0 ≡ bit_and (get_or old k 0) (get_or other k 0))
    → (place : ℕ) → mark_at (marks_of new) place ≡ (mark_at (marks_of old) place && mark_at (marks_of other) place)
marks_joined old other new p q r both place =
    mark_of new place ∙ ap (λ w. is_bit w (place % 64)) (each (place / 64))
    ∙ bit_of_both (get_or old (place / 64) 0) (get_or other (place / 64) 0) (place % 64)
    ∙ ap (λ t. t && is_bit (get_or other (place / 64) 0) (place % 64)) (sym (mark_of old place))
    ∙ ap (λ t. mark_at (marks_of old) place && t) (sym (mark_of other place))
  where
    each : (k : ℕ) → get_or new k 0 ≡ bit_and (get_or old k 0) (get_or other k 0)
    each k = elim (cases_lt k 8) [
      | inl inside ↦ both k inside
      | inr past ↦
          get_or_past new k 0 (omega arith)
          ∙ sym (ap (λ x. bit_and x (get_or other k 0)) (get_or_past old k 0 (omega arith)) ∙ ap (λ x. bit_and 0 x) (get_or_past other k 0 (omega arith)))
    ]

-- no byte past the last is marked
pub unmarked_past : (words : List ℕ) (place : ℕ) → length words ≡ 8 → 512 ≤ place → mark_at (marks_of words) place ≡ false
unmarked_past words place e h = get_or_past (marks_of words) place false (omega (arith, length-marks words))

-- words without bits have no mark
abbrev pub no_words : List ℕ
no_words = replicate 8 0

no_word : (k : ℕ) → get_or no_words k 0 ≡ 0
no_word k =
    elim (cases_lt k 8) [ inl h ↦ get_or-replicate 8 k 0 0 h | inr h ↦ get_or_past no_words k 0 (omega arith) ]

pub unmarked : (place : ℕ) → mark_at (marks_of no_words) place ≡ false
unmarked place =
    mark_of no_words place ∙ ap (λ w. is_bit w (place % 64)) (no_word (place / 64)) ∙ ap (λ x. x == 1) (bit_at-zero (place % 64))
