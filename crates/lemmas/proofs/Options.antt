-- Options by cases.
use Rattle.std.proofs.Common.{◌≡◌, ◌<◌, ℕ, Bool, true, false, cond, List, length, Option, None, Some, refl, inl, inr}
use Rattle.std.specs.Prelude.{option_map, slice_index_or}
use Rattle.std.proofs.lemmas.Bool.{cases_lt}
use Rattle.std.proofs.lemmas.List.{get_or_past}

-- a test that stops nothing is false, and the next one decides
pub passed : {A : Type 0} (b : Bool) (x : A) (rest : Option A) → cond b (Some x) rest ≡ None → (b ≡ false) × (rest ≡ None)
passed true x rest e = absurd cc
passed false x rest e = (refl, e)

-- what is mapped to nothing is nothing
pub unmapped : {A B : Type 0} (f : A → B) (o : Option A) → option_map f o ≡ None → o ≡ None
unmapped f None e = refl
unmapped f (Some x) e = absurd cc

-- if two options are the same, what they hold is the same
pub some_same : {A : Type 0} (x y : A) → Some x ≡ Some y → x ≡ y
some_same x y e = cc

-- what begins at a place of a list begins below its end
pub begins_below : {A : Type 0} (xs : List (Option A)) (place : ℕ) (x : A) → slice_index_or xs place None ≡ Some x → place < length xs
begins_below xs place x is =
    elim (cases_lt place (length xs)) [
      | inl below ↦ below
      | inr past ↦ let none : slice_index_or xs place None ≡ None = get_or_past xs place None past in absurd cc
    ]
