-- How many registers are lowered.
use Rattle.std.proofs.Common.{◌≡◌, ℕ, zero, suc, ◌+◌, ◌<◌, ◌≤◌, Bool, true, false, List, [], ◌∷◌, length, refl, ap, arith}
use Rattle.std.specs.Prelude.{slice_index_or, slice_set, replicate}
use Rattle.bver_form.specs.Lowered.{count_of}

-- no more than there are
pub count_below : (xs : List Bool) → count_of xs ≤ length xs
unfolding count_of
count_below [] = omega arith
count_below (true ∷ xs) = omega (arith, count_below xs)
count_below (false ∷ xs) = omega (arith, count_below xs)

-- if none is lowered, the count is 0
pub count_none : (n : ℕ) → count_of (replicate n false) ≡ 0
unfolding count_of
count_none zero = refl
count_none (suc n) = count_none n

-- one more
pub count_more : (xs : List Bool) (k : ℕ) → k < length xs → slice_index_or xs k false ≡ false → count_of (slice_set xs k true) ≡ count_of xs + 1
unfolding count_of
count_more [] k below none = absurd (omega arith)
count_more (true ∷ xs) zero below none = absurd cc
count_more (false ∷ xs) zero below none = omega arith
count_more (true ∷ xs) (suc k) below none = omega (arith, count_more xs k (omega arith) none)
count_more (false ∷ xs) (suc k) below none = count_more xs k (omega arith) none

-- what is lowered already
pub set_same : (xs : List Bool) (k : ℕ) → k < length xs → slice_index_or xs k false ≡ true → slice_set xs k true ≡ xs
set_same [] k below is = absurd (omega arith)
set_same (true ∷ xs) zero below is = refl
set_same (false ∷ xs) zero below is = absurd cc
set_same (x ∷ xs) (suc k) below is = ap (λ (rest : List Bool). x ∷ rest) (set_same xs k (omega arith) is)
