-- Lists of lists that are shown by the values of their elements.
use Rattle.std.proofs.Common.{◌≡◌, ◌<◌, ℕ, List, [], ◌∷◌, ◌++◌, length, map, get_or, sym, ap, ◌∙◌}
use Rattle.std.specs.Prelude.{slice_index_or, slice_set}
use Rattle.std.proofs.lemmas.List.{get_or-map, map-set}

-- An element that was found at a place is there with one more at its end.
pub grown_at : {X Y : Type 0} (f : X → List Y) (all : List X) (shown : List (List Y)) (place k : ℕ) (own new : X) (y : Y)
    → map f all ≡ shown → place ≡ k → place < length all → own ≡ get_or all place own → f new ≡ f own ++ y ∷ []
    → map f (slice_set all place new) ≡ slice_set shown k (slice_index_or shown k [] ++ y ∷ [])
grown_at {X} {Y} f all shown place k own new y is at below found grown =
    let was : f own ≡ get_or (map f all) place [] = ap f found ∙ sym (get_or-map f all place own [] below) in
    map-set f all place new
    ∙ ap (λ (l : List Y). slice_set (map f all) place l) (grown ∙ ap (λ (l : List Y). l ++ y ∷ []) was)
    ∙ ap (λ (i : ℕ). slice_set (map f all) i (slice_index_or (map f all) i [] ++ y ∷ [])) at
    ∙ ap (λ (table : List (List Y)). slice_set table k (slice_index_or table k [] ++ y ∷ [])) is
