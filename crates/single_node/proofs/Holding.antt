-- The programs that a node owns, one of which is put at a place.
use Rattle.std.proofs.Common.{◌≡◌, ◌≢◌, ℕ, zero, suc, ◌<◌, ◌++◌, List, [], ◌∷◌, length, set, Option, Some, refl, sym, ap, subst, ◌∙◌, arith, inl, inr}
use Rattle.std.specs.Prelude.{slice_get}
use Rattle.std.specs.Option.{option_map}
use Rattle.std.proofs.lemmas.Bool.{cases_eq}
use Rattle.std.proofs.lemmas.Option.{slice_get_within}
use Rattle.bver.specs.Justified.{AcceptedValue}
use Rattle.single_node.specs.declared.places.Placed.{Placed}
use Rattle.single_node.specs.declared.publishing.Publishing.{Publishing}
use Rattle.single_node.specs.Slots.{HasNoOther, placed_at, shown_at}

pub set_there : {A : Type 0} (xs : List A) (k : ℕ) (x : A) → k < length xs → slice_get (set xs k x) k ≡ Some x
set_there [] k x low = absurd (omega (arith, low))
set_there (y ∷ ys) zero x low = refl
set_there (y ∷ ys) (suc k) x low = set_there ys k x (omega (arith, low))

pub set_other : {A : Type 0} (xs : List A) (k j : ℕ) (x : A) → j ≢ k → slice_get (set xs k x) j ≡ slice_get xs j
set_other [] k j x other = refl
set_other (y ∷ ys) zero zero x other = absurd (other refl)
set_other (y ∷ ys) zero (suc j) x other = refl
set_other (y ∷ ys) (suc k) zero x other = refl
set_other (y ∷ ys) (suc k) (suc j) x other = set_other ys k j x (λ e. other (ap suc e))

pub more_there : {A : Type 0} (xs : List A) (x : A) → slice_get (xs ++ x ∷ []) (length xs) ≡ Some x
more_there [] x = refl
more_there (y ∷ ys) x = more_there ys x

pub more_other : {A : Type 0} (xs : List A) (x : A) (k : ℕ) → k < length xs → slice_get (xs ++ x ∷ []) k ≡ slice_get xs k
more_other [] x k low = absurd (omega (arith, low))
more_other (y ∷ ys) x zero low = refl
more_other (y ∷ ys) x (suc k) low = more_other ys x k (omega (arith, low))

-- the same programs are shown if one is put in the place of another that has the same program
pub shown_after : (xs : List Publishing) (place : ℕ) (x y : Publishing) (s : Placed) → slice_get xs place ≡ Some x → y.program ≡ x.program
    → shown_at (set xs place y) s ≡ shown_at xs s
shown_after xs place x y s at same =
    let shows : Option Publishing → Option (AcceptedValue × ℕ) = option_map (λ (p : Publishing). (p.program, s.generation)) in
    elim (cases_eq s.place place) [
      | inl here ↦
          let now : slice_get (set xs place y) s.place ≡ Some y = subst (λ (k : ℕ). slice_get (set xs place y) k ≡ Some y) (sym here) (set_there xs place y (slice_get_within xs place x at)) in
          let before : slice_get xs s.place ≡ Some x = ap (slice_get xs) here ∙ at in
          ap shows now ∙ ap (λ (a : AcceptedValue). Some (a, s.generation)) same ∙ sym (ap shows before)
      | inr other ↦ ap shows (set_other xs place s.place y other)
    ]

-- only that slot has the place
pub no_other : (slots : List Placed) (slot place : ℕ) → (0 ≢ slot → (placed_at slots 0).place ≢ place) → (1 ≢ slot → (placed_at slots 1).place ≢ place)
    → (2 ≢ slot → (placed_at slots 2).place ≢ place) → (3 ≢ slot → (placed_at slots 3).place ≢ place) → HasNoOther slots slot place
no_other slots slot place a b c d = by
  where
    by : (k : ℕ) → k < 4 → k ≢ slot → (placed_at slots k).place ≢ place
    by zero low = a
    by (suc zero) low = b
    by (suc (suc zero)) low = c
    by (suc (suc (suc zero))) low = d
    by (suc (suc (suc (suc n)))) low = absurd (omega (arith, low))

-- nor has one the place after all programs
pub none_after : (slots : List Placed) (slot count : ℕ) → ((k : ℕ) → k < 4 → (placed_at slots k).place < count) → HasNoOther slots slot count
none_after slots slot count low = λ k few other here.
    let below = low k few in
    omega (arith, below, here)
