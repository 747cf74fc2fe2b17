-- Two lists whose elements belong together, by their places.
use Rattle.std.proofs.Common.{◌≡◌, ◌<◌, ◌+◌, ℕ, List, [], ◌∷◌, ◌++◌, sym, ap, ◌∙◌, subst, ⊎_elim, arith}
use Rattle.std.specs.Prelude.{length, slice_index_or}
use Rattle.std.proofs.Math.Seq.{get_or-append_seam}
use Rattle.std.proofs.lemmas.Bool.{cases_lt}
use Rattle.std.proofs.lemmas.List.{get_or_append_left}

-- An element after the others is at the place of its number.
pub last : {A : Type 0} (xs : List A) (x y : A) (k : ℕ) → k ≡ length xs → slice_index_or (xs ++ x ∷ []) k y ≡ x
last xs x y k is = ap (λ i. slice_index_or (xs ++ x ∷ []) i y) is ∙ get_or-append_seam xs x [] y

module _ {A B : Type 0} (P : A → B → Type 0) (xs : List A) (ys : List B) (a : A) (b : B) where
  -- A pair after the others.
  pub paired : length ys ≡ length xs → ((k : ℕ) (x : A) (y : B) → k < length xs → P (slice_index_or xs k x) (slice_index_or ys k y)) → P a b
      → (k : ℕ) (x : A) (y : B) → k < length xs + 1 → P (slice_index_or (xs ++ a ∷ []) k x) (slice_index_or (ys ++ b ∷ []) k y)
  paired many each here k x y below = ⊎_elim
      (λ (low : k < length xs).
      subst (λ (v : A). P v (slice_index_or (ys ++ b ∷ []) k y)) (sym (get_or_append_left xs (a ∷ []) x k low))
      (subst (λ (w : B). P (slice_index_or xs k x) w) (sym (get_or_append_left ys (b ∷ []) y k (omega (arith, low, many)))) (each k x y low)))
      (λ high.
      let place : k ≡ length xs = omega (arith, high, below) in
      subst (λ (v : A). P v (slice_index_or (ys ++ b ∷ []) k y)) (sym (last xs a x k place))
      (subst (λ (w : B). P a w) (sym (last ys b y k (place ∙ sym many))) here))
      (cases_lt k (length xs))
