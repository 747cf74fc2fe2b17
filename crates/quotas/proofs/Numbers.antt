-- Different numbers below a limit are at most as many as it says.
use Rattle.std.specs.Prelude.{◌≢◌, ◌==◌, if◌then◌else◌}
use Rattle.std.proofs.Common.{◌≡◌, ◌<◌, ◌≤◌, ℕ, zero, suc, Bool, true, false, List, [], ◌∷◌, length, refl, subst, arith}
use Rattle.std.proofs.lemmas.Bool.{eqb-false, eqb-true}

-- the number is none of the list
abbrev pub IsNotIn : ℕ → List ℕ → Type 0
IsNotIn x [] = Unit {0}
IsNotIn x (y ∷ ys) = (x ≢ y) × IsNotIn x ys

-- each number of a list is another one
abbrev pub AreDistinct : List ℕ → Type 0
AreDistinct [] = Unit {0}
AreDistinct (x ∷ xs) = IsNotIn x xs × AreDistinct xs

-- each is below the limit
abbrev pub AreBelow : ℕ → List ℕ → Type 0
AreBelow limit [] = Unit {0}
AreBelow limit (x ∷ xs) = (x < limit) × AreBelow limit xs

-- a list without the first of its numbers that is this one
without : ℕ → List ℕ → List ℕ
without m [] = []
without m (x ∷ xs) = if x == m then xs else x ∷ without m xs

one_less : (m : ℕ) (xs : List ℕ) → length xs ≤ suc (length (without m xs))
unfolding without
one_less m [] = omega arith
one_less m (x ∷ xs) = by (x == m) (one_less m xs)
  where
    by : (t : Bool) → length xs ≤ suc (length (without m xs)) → length (x ∷ xs) ≤ suc (length (if t then xs else x ∷ without m xs))
    by true rest = omega arith
    by false rest = omega (arith, rest)

not_in_rest : (m y : ℕ) (xs : List ℕ) → IsNotIn y xs → IsNotIn y (without m xs)
unfolding without
not_in_rest m y [] h = tt
not_in_rest m y (x ∷ xs) h = by (x == m) (not_in_rest m y xs h.1)
  where
    by : (t : Bool) → IsNotIn y (without m xs) → IsNotIn y (if t then xs else x ∷ without m xs)
    by true rest = h.1
    by false rest = (h.0, rest)

distinct_rest : (m : ℕ) (xs : List ℕ) → AreDistinct xs → AreDistinct (without m xs)
unfolding without
distinct_rest m [] h = tt
distinct_rest m (x ∷ xs) h = by (x == m) (distinct_rest m xs h.1)
  where
    by : (t : Bool) → AreDistinct (without m xs) → AreDistinct (if t then xs else x ∷ without m xs)
    by true rest = h.1
    by false rest = (not_in_rest m x xs h.0, rest)

below_last : (m : ℕ) (xs : List ℕ) → IsNotIn m xs → AreBelow (suc m) xs → AreBelow m xs
below_last m [] apart h = tt
below_last m (x ∷ xs) apart h = (omega (arith, apart.0, h.0), below_last m xs apart.1 h.1)

below_rest : (m : ℕ) (xs : List ℕ) → AreDistinct xs → AreBelow (suc m) xs → AreBelow m (without m xs)
unfolding without
below_rest m [] apart h = tt
below_rest m (x ∷ xs) apart h = by (x == m) refl (below_rest m xs apart.1 h.1)
  where
    by : (t : Bool) → (x == m) ≡ t → AreBelow m (without m xs) → AreBelow m (if t then xs else x ∷ without m xs)
    by true is rest = below_last m xs (subst (λ (k : ℕ). IsNotIn k xs) (eqb-true x m is) apart.0) h.1
    by false is rest = let other : x ≢ m = eqb-false x m is in (omega (arith, other, h.0), rest)

pub pigeonhole : (limit : ℕ) (xs : List ℕ) → AreDistinct xs → AreBelow limit xs → length xs ≤ limit
pigeonhole zero [] apart below = omega arith
pigeonhole zero (x ∷ xs) apart below = absurd (omega (arith, below.0))
pigeonhole (suc m) xs apart below =
    let rest = pigeonhole m (without m xs) (distinct_rest m xs apart) (below_rest m xs apart below) in
    omega (arith, rest, one_less m xs)
