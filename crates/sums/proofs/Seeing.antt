-- Each step of a sum is one to one, in the sum before and in the word.
use Rattle.std.proofs.Common.{◌≡◌, ◌≢◌, ◌<◌, ℕ, ◌^◌, List, [], ◌∷◌, ◌++◌, arith}
use Rattle.sums.specs.Sums.{after_word, sum_from}

low : (sum word : ℕ) → after_word sum word < 2 ^ 64
low sum word = omega arith

same_word : (sum a b : ℕ) → a < 2 ^ 64 → b < 2 ^ 64 → after_word sum a ≡ after_word sum b → a ≡ b
same_word sum a b low_a low_b same = omega (arith, low_a, low_b, same)

same_sum : (s r word : ℕ) → s < 2 ^ 64 → r < 2 ^ 64 → after_word s word ≡ after_word r word → s ≡ r
same_sum s r word low_s low_r same = omega (arith, low_s, low_r, same)

-- sums that differ stay apart
apart : (words : List ℕ) (s r : ℕ) → s < 2 ^ 64 → r < 2 ^ 64 → s ≢ r → sum_from s words ≢ sum_from r words
apart [] s r low_s low_r other = other
apart (word ∷ words) s r low_s low_r other =
    apart words (after_word s word) (after_word r word) (low s word) (low r word) (λ same. other (same_sum s r word low_s low_r same))

pub seen : (before after : List ℕ) (sum a b : ℕ) → sum < 2 ^ 64 → a < 2 ^ 64 → b < 2 ^ 64 → a ≢ b → sum_from sum (before ++ a ∷ after) ≢ sum_from sum (before ++ b ∷ after)
seen [] after sum a b low_sum low_a low_b other =
    apart after (after_word sum a) (after_word sum b) (low sum a) (low sum b) (λ same. other (same_word sum a b low_a low_b same))
seen (word ∷ before) after sum a b low_sum low_a low_b other =
    seen before after (after_word sum word) a b (low sum word) low_a low_b other
