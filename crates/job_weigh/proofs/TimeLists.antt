-- From the parts of a list to the times that it writes.
use Rattle.std.proofs.Common.{◌≡◌, ℕ, List, [], ◌∷◌, length, map, All, refl, sym, ap, subst, ◌∙◌}
use Rattle.std.proofs.lemmas.List.{length-map}
use Rattle.std.proofs.lemmas.List.Elements.{All-map}
use Rattle.job_parts.specs.Options.{list_parts}
use Rattle.job_weigh.specs.Times.{IsTimeIn, IsTimes, times_of, value_in, written_times}
use Rattle.job_weigh.specs.declared.times.Unit.{Unit as TimeUnit}
use Rattle.job_parts.proofs.MapLists.{unmapped}

-- the numbers of texts are those of the list that they are the parts of
numbers_of : {X : Type 0} (unit : TimeUnit) (f : X → List ℕ) (xs : List X) (text : List ℕ) → map f xs ≡ list_parts text
    → map (λ x. value_in unit (f x)) xs ≡ map (value_in unit) (list_parts text)
numbers_of unit f xs text are = map_twice unit f xs ∙ ap (map (value_in unit)) are
  where
    map_twice : {X : Type 0} (unit : TimeUnit) (f : X → List ℕ) (xs : List X) → map (λ x. value_in unit (f x)) xs ≡ map (value_in unit) (map f xs)
    map_twice unit f [] = refl
    map_twice unit f (x ∷ xs) = ap (λ (l : List ℕ). value_in unit (f x) ∷ l) (map_twice unit f xs)

-- the texts are of times if the parts of the list are
pub are_times : {X : Type 0} (unit : TimeUnit) (f : X → List ℕ) (xs : List X) (text : List ℕ) → map f xs ≡ list_parts text → IsTimes unit text → All (λ x. IsTimeIn unit (f x)) xs
are_times unit f xs text are times = unmapped (IsTimeIn unit) f xs (subst (All (IsTimeIn unit)) (sym are) times.1)

-- the list has as many parts as times were written
pub as_many : {X : Type 0} (unit : TimeUnit) (f : X → List ℕ) (xs : List X) (text : List ℕ) (times : List ℕ) → map f xs ≡ list_parts text
    → times ≡ map (λ x. value_in unit (f x)) xs → length times ≡ length (list_parts text)
as_many unit f xs text times are written =
    ap (λ (l : List ℕ). length l) (written ∙ numbers_of unit f xs text are) ∙ length-map (list_parts text) (value_in unit)

-- four parts that are of times make a list
pub time_list : {X : Type 0} (unit : TimeUnit) (f : X → List ℕ) (xs : List X) (text : List ℕ) (times : List ℕ) → map f xs ≡ list_parts text
    → All (λ x. IsTimeIn unit (f x)) xs → times ≡ map (λ x. value_in unit (f x)) xs → length times ≡ 4
    → IsTimes unit text × (times_of times ≡ written_times unit text)
time_list unit f xs text times are all written four = (
  (sym (as_many unit f xs text times are written) ∙ four, subst (All (IsTimeIn unit)) are (All-map (IsTimeIn unit) f xs all)),
  ap (λ (l : List ℕ). times_of l) (written ∙ numbers_of unit f xs text are),
)
