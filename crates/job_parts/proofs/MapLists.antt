-- From the parts of a list to the maps that it writes.
use Rattle.std.proofs.Common.{◌≡◌, ◌≢◌, ◌==◌, ℕ, ◌+◌, ◌<◌, true, false, List, [], ◌∷◌, ◌++◌, length, map, take, get_or, All, refl, sym, ap, subst, ◌∙◌}
use Rattle.std.proofs.lemmas.List.{map_push, take_more}
use Rattle.std.proofs.lemmas.List.Elements.{All-cons, All-head, All-map, All-nil, All-tail}
use Rattle.std.proofs.lemmas.Bool.Decides.{nat_tests}
use native.Mathlib.Omega.{arith}
use Rattle.machine.specs.Sizes.{AreSizes, listed_maps}
use Rattle.machine.specs.declared.kinds.MapKind.{MapKind}
use Rattle.machine.specs.declared.kinds.MapKind.TheVariants.{Counter, Peak}
use Rattle.job_parts.specs.Options.{IsMapPart, IsMapList, is_of_peaks, map_kind_of, list_parts, map_of_part, size_word, without_last, written_maps}

-- one more element of a list is mapped
pub map-one_more : {X Y : Type 0} (f : X → Y) (xs : List X) (i : ℕ) (d : X) (old new : List Y) (n : Y) → i < length xs
    → new ≡ old ++ n ∷ [] → n ≡ f (get_or xs i d) → old ≡ map f (take i xs) → new ≡ map f (take (i + 1) xs)
map-one_more {X} {Y} f xs i d old new n inside joined is before =
    joined ∙ ap (λ (front : List Y). front ++ n ∷ []) before ∙ ap (λ (m : Y). map f (take i xs) ++ m ∷ []) is
    ∙ sym (map_push f (take i xs) (get_or xs i d)) ∙ sym (ap (map f) (take_more xs i d inside))

-- the maps of texts are those of the list that they are the parts of
pub maps_of : {X : Type 0} (f : X → List ℕ) (xs : List X) (text : List ℕ) → map f xs ≡ list_parts text
    → map (λ x. map_of_part (f x)) xs ≡ map (λ part. map_of_part part) (list_parts text)
maps_of f xs text are = map_twice f xs ∙ ap (map (λ part. map_of_part part)) are
  where
    map_twice : {X : Type 0} (f : X → List ℕ) (xs : List X) → map (λ x. map_of_part (f x)) xs ≡ map (λ part. map_of_part part) (map f xs)
    map_twice f [] = refl
    map_twice f (x ∷ xs) = ap (λ (l : List (ℕ × MapKind)). map_of_part (f x) ∷ l) (map_twice f xs)

-- what holds of each image of a list holds of its elements by their images
pub unmapped : {X : Type 0} (P : List ℕ → Type 0) (f : X → List ℕ) (xs : List X) → All P (map f xs) → All (λ x. P (f x)) xs
unmapped P f [] h = All-nil (λ x. P (f x))
unmapped P f (x ∷ xs) h = All-cons (λ x. P (f x)) x xs (All-head P (f x) (map f xs) h) (unmapped P f xs (All-tail P (f x) (map f xs) h))

-- the texts are of maps if the parts of the list are
pub are_maps : {X : Type 0} (f : X → List ℕ) (xs : List X) (text : List ℕ) → map f xs ≡ list_parts text → IsMapList text → All (λ x. IsMapPart (f x)) xs
are_maps f xs text are list = unmapped (λ part. IsMapPart part) f xs (subst (All (λ part. IsMapPart part)) (sym are) list.0)

-- parts that are of maps, and what they write, if a node may have it, make a list
pub map_list : {X : Type 0} (f : X → List ℕ) (xs : List X) (text : List ℕ) (maps : List (ℕ × MapKind)) → map f xs ≡ list_parts text → All (λ x. IsMapPart (f x)) xs
    → maps ≡ map (λ x. map_of_part (f x)) xs → AreSizes (listed_maps maps) → IsMapList text × (listed_maps maps ≡ written_maps text)
map_list f xs text maps are all written allowed =
    let sizes : listed_maps maps ≡ written_maps text = ap (λ (l : List (ℕ × MapKind)). listed_maps l) (written ∙ maps_of f xs text are) in (
      (subst (All (λ part. IsMapPart part)) are (All-map (λ part. IsMapPart part) f xs all), subst AreSizes sizes allowed),
      sizes,
    )

-- after some digits the last letter is the letter p
last_p : (xs : List ℕ) → is_of_peaks (xs ++ 112 ∷ []) ≡ true
last_p [] = refl
last_p (x ∷ []) = refl
last_p (x ∷ y ∷ xs) = last_p (y ∷ xs)

-- and the digits are before it
front_of : (xs : List ℕ) → without_last (xs ++ 112 ∷ []) ≡ xs
front_of [] = refl
front_of (x ∷ []) = refl
front_of (x ∷ y ∷ xs) = ap (λ (l : List ℕ). x ∷ l) (front_of (y ∷ xs))

-- another letter is not equal to it
differs : (letter : ℕ) → letter ≢ 112 → (letter == 112) ≡ false
differs letter other = grind (arith, nat_tests, other)

-- what does not end in that letter has another one last
not_p : (part : List ℕ) → ((front : List ℕ) → part ≢ front ++ 112 ∷ []) → is_of_peaks part ≡ false
not_p [] none = refl
not_p (x ∷ []) none = differs x (λ e. none [] (ap (λ (d : ℕ). d ∷ []) e))
not_p (x ∷ y ∷ xs) none = not_p (y ∷ xs) (λ front e. none (x ∷ front) (ap (λ (l : List ℕ). x ∷ l) e))

-- a part that is these digits and the letter p is of a peak map, and has these digits
pub peaks_of : (part digits : List ℕ) → part ≡ digits ++ 112 ∷ [] → (digits ≡ size_word part) × (Peak ≡ map_kind_of part)
peaks_of part digits is = rw is (joined digits)
  where
    joined : (digits : List ℕ) → (digits ≡ size_word (digits ++ 112 ∷ [])) × (Peak ≡ map_kind_of (digits ++ 112 ∷ []))
    joined digits =
        let last : is_of_peaks (digits ++ 112 ∷ []) ≡ true = last_p digits in
        (rw last (sym (front_of digits)), rw last refl)

-- a part without that letter at its end is of a counter map, and has only digits
pub counters_of : (part : List ℕ) → ((front : List ℕ) → part ≢ front ++ 112 ∷ []) → (part ≡ size_word part) × (Counter ≡ map_kind_of part)
counters_of part none =
    let other : is_of_peaks part ≡ false = not_p part none in
    (rw other refl, rw other refl)
