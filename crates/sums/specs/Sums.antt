-- Sums of words, in which each word that changes is seen.
use Rattle.std.specs.Prelude.{◌≢◌, ◌<◌, ℕ, ◌+◌, ◌*◌, ◌/◌, ◌%◌, ◌^◌, List, ◌∷◌, ◌++◌, fold}

-- a sum turned by one bit to the left
abbrev pub turned : (sum : ℕ) → ℕ
turned sum = sum * 2 % 2 ^ 64 + sum / 2 ^ 63

-- the sum after one more word
abbrev pub after_word : (sum word : ℕ) → ℕ
after_word sum word = (turned sum + word) % 2 ^ 64

-- the sum of words, after that of those before
abbrev pub sum_from : (sum : ℕ) → List ℕ → ℕ
sum_from sum words = fold after_word sum words

-- two lists of words that differ in one word have different sums
abbrev pub OneWordIsSeen : Type 0
OneWordIsSeen = (sum : ℕ) (before after : List ℕ) (a b : ℕ) → sum < 2 ^ 64 → a < 2 ^ 64 → b < 2 ^ 64 → a ≢ b
    → sum_from sum (before ++ a ∷ after) ≢ sum_from sum (before ++ b ∷ after)
