-- Lists that are written to the front of an array of blanks.
use Rattle.std.proofs.Common.{◌≡◌, ℕ, ◌+◌, ◌-◌, ◌<◌, ◌≤◌, ◌++◌, List, [], ◌∷◌, length, map, take, drop, set, get_or, refl, sym, ap, ap₂, ◌∙◌, arith}
use Rattle.std.specs.Prelude.{replicate}
use Rattle.std.proofs.lemmas.List.{drop-replicate, take-replicate, drop_at, take_at, take_all, length-append, length-drop, length-map, length-replicate, length-set, map-append, take-append-drop, take_more, drop-drop, drop-set-lt}
use Rattle.std.proofs.lemmas.Grind.{take-set_at}
use Rattle.machine.specs.declared.kinds.MapKind.{MapKind}
use Rattle.machine.specs.declared.kinds.MapKind.TheVariants.{Counter}
use Rattle.machine.specs.Padding.{IsPadded, padded}
use Rattle.machine.specs.Sizes.{Maps, AreSizes, counter_maps}

abbrev maps_of : List ℕ → List MapKind → Maps
maps_of cells kinds = record { cells = cells; kinds = kinds }

pub is_filled : {X : Type 0} (blank : X) (xs : List X) → length xs ≤ 8 → IsPadded blank (length xs) (xs ++ drop (length xs) (replicate 8 blank))
is_filled blank xs few =
    let all = replicate 8 blank in
    let rest = drop (length xs) all in
    record {
      few = few;
      len = omega (arith, length-append xs rest, length-drop (length xs) all, length-replicate 8 blank);
      blanks = drop_at xs rest (length xs) refl ∙ drop-replicate (length xs) 8 blank;
    }

-- the array of counter maps of these sizes
pub are_counters : (sizes : List ℕ) → AreSizes (counter_maps sizes)
    → IsPadded 0 (length sizes) (sizes ++ drop (length sizes) (replicate 8 0)) × IsPadded Counter (length sizes) (replicate 8 Counter)
    × AreSizes (record { cells = take (length sizes) (sizes ++ drop (length sizes) (replicate 8 0)); kinds = take (length sizes) (replicate 8 Counter) })
are_counters sizes h =
    let n = length sizes in (
      is_filled 0 sizes h.maps,
      record { few = h.maps; len = length-replicate 8 Counter; blanks = drop-replicate n 8 Counter },
      rw (take_at sizes (drop n (replicate 8 0)) n refl, take-replicate n 8 Counter h.maps) h,
    )

-- a reader sees them as counter maps of these sizes
pub counters_seen : (sizes : List ℕ) → length sizes ≤ 8 → record { cells = take (length sizes) (sizes ++ drop (length sizes) (replicate 8 0)); kinds = take (length sizes) (replicate 8 Counter) } ≡ counter_maps sizes
counters_seen sizes few =
    let n = length sizes in
    ap₂ maps_of (take_at sizes (drop n (replicate 8 0)) n refl) (take-replicate n 8 Counter few)

-- the array after the first `count` of the list were written, each by one of its parts
pub record IsFilledTo {A X : Type 0} (part : A → X) (blank : X) (count : ℕ) (given : List A) (xs : List X) : Type 0 where
  pub len : length xs ≡ 8
  pub front : take count xs ≡ map part (take count given)
  pub blanks : drop count xs ≡ replicate (8 - count) blank

pub filled_more : {A X : Type 0} (part : A → X) (blank : X) (count : ℕ) (given : List A) (xs : List X) (d : A) → length given ≤ 8 → count < length given
    → IsFilledTo part blank count given xs → IsFilledTo part blank (count + 1) given (set xs count (part (get_or given count d)))
filled_more {A} {X} part blank count given xs d few lt h =
    let a = get_or given count d in
    let below : count < length xs = omega (arith, h.len) in
    let one : drop (count + 1) xs ≡ drop 1 (drop count xs) = sym (drop-drop 1 count xs) in
    let fewer : 8 - count - 1 ≡ 8 - (count + 1) = omega arith in
    let next : take (count + 1) given ≡ take count given ++ a ∷ [] = take_more given count d lt in
    record {
      len = length-set xs count (part a) ∙ h.len;
      front = take-set_at xs count (count + 1) (part a) refl below
          ∙ ap (λ (ys : List X). ys ++ part a ∷ []) h.front
          ∙ sym (ap (map part) next ∙ map-append part (take count given) (a ∷ []));
      blanks = drop-set-lt (count + 1) xs count (part a) (omega arith) ∙ one ∙ ap (drop 1) h.blanks ∙ drop-replicate 1 (8 - count) blank
          ∙ ap (λ (n : ℕ). replicate n blank) fewer;
    }

pub filled_all : {A X : Type 0} (part : A → X) (blank : X) (count : ℕ) (given : List A) (xs : List X) → length given ≤ count → count ≤ length given
    → IsFilledTo part blank count given xs → xs ≡ padded blank (map part given)
filled_all {A} {X} part blank count given xs all most h =
    let front : take count xs ≡ map part given = h.front ∙ ap (map part) (take_all count given all) in
    let many : 8 - count ≡ 8 - length (map part given) = omega (arith, length-map given part) in
    sym (take-append-drop count xs) ∙ ap₂ (λ (ys zs : List X). ys ++ zs) front (h.blanks ∙ ap (λ (n : ℕ). replicate n blank) many)
