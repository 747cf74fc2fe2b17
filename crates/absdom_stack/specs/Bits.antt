-- Marks as the bits of eight words, the lowest bit first.
use Rattle.std.specs.Prelude.{◌≡◌, ◌<◌, ◌≤◌, ◌^◌, ◌+◌, ◌*◌, ◌/◌, ◌%◌, ◌==◌, ℕ, zero, suc, Bool, true, false, List, [], ◌∷◌}
use Rattle.std.specs.Prelude.{◌++◌, length, take, drop, slice_index_or}
pub use Rattle.bpf_insn.specs.Bits.{is_bit}
use Rattle.std.proofs.Common.{refl, ap, ◌∙◌, sym, arith}
use Rattle.std.proofs.lemmas.Bool.Decides.{nat_tests}
use Rattle.std.proofs.Math.Seq.{take-append_seam, drop-append_seam}
use native.Mathlib.Nat.{pow-suc}

-- the lowest `count` bits of a word
unfoldable pub bits_of_word : (count word : ℕ) → List Bool
bits_of_word zero word = []
bits_of_word (suc count) word = (word % 2 == 1) ∷ bits_of_word count (word / 2)

-- the bits of words, 64 of each
unfoldable pub marks_of : (words : List ℕ) → List Bool
marks_of [] = []
marks_of (word ∷ words) = bits_of_word 64 word ++ marks_of words

-- the word of these bits
unfoldable pub word_of_bits : List Bool → ℕ
word_of_bits [] = 0
word_of_bits (true ∷ bits) = 1 + 2 * word_of_bits bits
word_of_bits (false ∷ bits) = 2 * word_of_bits bits

-- `count` words from their bits
unfoldable pub words_of_bits : (count : ℕ) → List Bool → List ℕ
words_of_bits zero bits = []
words_of_bits (suc count) bits = word_of_bits (take 64 bits) ∷ words_of_bits count (drop 64 bits)

-- there are eight words
pub record AreEightWords (words : List ℕ) : Type 0 where
  pub count : length words ≡ 8
  pub each : (k : ℕ) → slice_index_or words k 0 < 2 ^ 64

-- a word has all of these bits
abbrev pub AreBitsOf : (word bits : ℕ) → Type 0
AreBitsOf word bits = (i : ℕ) → i < 64 → is_bit bits i ≡ true → is_bit word i ≡ true

-- the bits of a word, by its number, are those for the places from the first to before the end
pub record AreBitsIn (word first end bits : ℕ) : Type 0 where
  pub made : (i : ℕ) → i < 64 → first ≤ 64 * word + i → 64 * word + i < end → is_bit bits i ≡ true
  pub only : (i : ℕ) → i < 64 → is_bit bits i ≡ true → (first ≤ 64 * word + i) × (64 * word + i < end)

-- there is a bit for each place
pub length-bits : (count word : ℕ) → length (bits_of_word count word) ≡ count
unfolding bits_of_word
length-bits zero word = refl
length-bits (suc count) word = ap suc (length-bits count (word / 2))

-- a word is that of its bits
word_back : (count word : ℕ) → word < 2 ^ count → word_of_bits (bits_of_word count word) ≡ word
unfolding bits_of_word word_of_bits
word_back zero word h = omega arith
word_back (suc count) word h = step (word % 2 == 1) refl (word_back count (word / 2) (omega (arith, pow-suc 2 count)))
  where
    step : (odd : Bool) → (word % 2 == 1) ≡ odd → word_of_bits (bits_of_word count (word / 2)) ≡ word / 2
        → word_of_bits (odd ∷ bits_of_word count (word / 2)) ≡ word
    step true e half = let one : word % 2 ≡ 1 = grind (arith, nat_tests) in omega (arith, half)
    step false e half = let none : word % 2 ≡ 0 = grind (arith, nat_tests) in omega (arith, half)

words_back : (count : ℕ) (words : List ℕ) → length words ≡ count → ((k : ℕ) → slice_index_or words k 0 < 2 ^ 64)
    → words_of_bits count (marks_of words) ≡ words
unfolding marks_of words_of_bits
words_back zero [] e each = refl
words_back zero (word ∷ words) e each = absurd (omega arith)
words_back (suc count) [] e each = absurd (omega arith)
words_back (suc count) (word ∷ words) e each =
    let front : take 64 (bits_of_word 64 word ++ marks_of words) ≡ bits_of_word 64 word =
    ap (λ n. take n (bits_of_word 64 word ++ marks_of words)) (sym (length-bits 64 word))
    ∙ take-append_seam (bits_of_word 64 word) (marks_of words) in
    let rest : drop 64 (bits_of_word 64 word ++ marks_of words) ≡ marks_of words =
    ap (λ n. drop n (bits_of_word 64 word ++ marks_of words)) (sym (length-bits 64 word))
    ∙ drop-append_seam (bits_of_word 64 word) (marks_of words) in
    let first : word_of_bits (take 64 (bits_of_word 64 word ++ marks_of words)) ≡ word =
    ap word_of_bits front ∙ word_back 64 word (each 0) in
    let others : words_of_bits count (drop 64 (bits_of_word 64 word ++ marks_of words)) ≡ words =
    ap (words_of_bits count) rest ∙ words_back count words (omega arith) (λ k. each (suc k)) in
    ap (λ x. x ∷ words_of_bits count (drop 64 (bits_of_word 64 word ++ marks_of words))) first ∙ ap (λ xs. word ∷ xs) others

-- eight words are those of their marks
pub words_from_marks : (words : List ℕ) → AreEightWords words → words_of_bits 8 (marks_of words) ≡ words
words_from_marks words h = words_back 8 words h.count h.each
