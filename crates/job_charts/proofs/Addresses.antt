-- Words of which one writes no address.
use Rattle.std.proofs.Common.{◌≡◌, ℕ, List, [], ◌∷◌, arith, length, map}
use Rattle.std.specs.Prelude.{get_or}
use Rattle.job_packets.specs.HexWords.{WritesHexWord}
use Rattle.job_charts.specs.ChartScope.{HasAddresses}

-- it is the only one
pub no_one : {X : Type 0} (text : X → List ℕ) (xs : List X) (d : X) → length xs ≡ 1 → ((n : ℕ) → ¬ WritesHexWord 8 (text (get_or xs 0 d)) n) → HasAddresses (map text xs) → ⊥
no_one text [] d e fails has = absurd (omega (arith, e))
no_one text (a ∷ []) d e fails (low, high, are) = fails low are.0
no_one text (a ∷ b ∷ xs) d e fails has = absurd (omega (arith, e))

-- it is the first of two
pub no_first : {X : Type 0} (text : X → List ℕ) (xs : List X) (d : X) → length xs ≡ 2 → ((n : ℕ) → ¬ WritesHexWord 8 (text (get_or xs 0 d)) n) → HasAddresses (map text xs) → ⊥
no_first text [] d e fails has = absurd (omega (arith, e))
no_first text (a ∷ []) d e fails has = absurd (omega (arith, e))
no_first text (a ∷ b ∷ []) d e fails (low, high, are) = fails low are.0
no_first text (a ∷ b ∷ c ∷ xs) d e fails has = absurd (omega (arith, e))

-- it is the second
pub no_second : {X : Type 0} (text : X → List ℕ) (xs : List X) (d : X) → length xs ≡ 2 → ((n : ℕ) → ¬ WritesHexWord 8 (text (get_or xs 1 d)) n) → HasAddresses (map text xs) → ⊥
no_second text [] d e fails has = absurd (omega (arith, e))
no_second text (a ∷ []) d e fails has = absurd (omega (arith, e))
no_second text (a ∷ b ∷ []) d e fails (low, high, are) = fails high are.1
no_second text (a ∷ b ∷ c ∷ xs) d e fails has = absurd (omega (arith, e))
