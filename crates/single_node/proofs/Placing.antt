-- The programs of a node by their places.
use Rattle.std.proofs.Common.{◌≡◌, ◌≢◌, ℕ, zero, suc, ◌+◌, ◌<◌, List, [], ◌∷◌, length, set, Option, None, Some, refl, sym, ap, ap₂, subst, ◌∙◌, arith}
use Rattle.std.specs.Prelude.{IfSome, map, slice_get}
use Rattle.std.specs.Option.{option_map}
use Rattle.std.proofs.lemmas.List.{length-map, map-set}
use Rattle.std.proofs.lemmas.Option.{get_or_from_slice_get, slice_get-get_or, slice_get_within}
use Rattle.machine.specs.Sizes.{Maps}
use Rattle.bver.specs.Justified.{AcceptedValue}
use Rattle.node_programs.specs.declared.publishes.Publish.{Publish}
use Rattle.node_programs.specs.Histories.{entry, longer_history}
use Rattle.node_programs.specs.Laws.{IsSetByNext}
use Rattle.node_programs.specs.Published.{judging_program, program_at, sizes_of}
use Rattle.node_programs.proofs.Shelves.{Pair, slot_at}
use Rattle.single_node.specs.declared.places.Placed.{Placed}
use Rattle.single_node.specs.declared.publishing.Publishing.{Publishing}
use Rattle.single_node.specs.Slots.{ArePlaced, first_placed, placed_at, shown_at, shown_by}
use Rattle.single_node.proofs.Slots.{first_slots, longer_slots, shown_sizes}

-- a program that is somewhere, with a generation
pair_of : ℕ → Publishing → Pair
pair_of generation p = (p.program, generation)

some_of : (generation : ℕ) (o : Option Publishing) (q : Pair) → option_map (λ (p : Publishing). (p.program, generation)) o ≡ Some q → (p : Publishing) × (o ≡ Some p) × ((p.program, generation) ≡ q)
some_of generation None q is = absurd (cc is)
some_of generation (Some p) q is = (p, refl, cc is)

-- what a slot shows, by its place
shows : (xs : List Publishing) (slots : List Placed) (shown : List Pair) → shown_by xs slots ≡ map (λ (q : Pair). Some q) shown → (k : ℕ) (s : Placed) → slice_get slots k ≡ Some s
    → (q : Pair) × (slice_get shown k ≡ Some q) × (shown_at xs s ≡ Some q)
shows xs [] shown is k s at = absurd (cc at)
shows xs (t ∷ slots) [] is k s at = absurd (cc is)
shows xs (t ∷ slots) (q ∷ shown) is zero s at = (q, refl, cc (is, at))
shows xs (t ∷ slots) (q ∷ shown) is (suc k) s at = shows xs slots shown (cc is) k s at

-- there are four
pub four_slots : (h : List Publish) (xs : List Publishing) (slots : List Placed) (count : ℕ) (sizes : Maps) → ArePlaced h xs slots count sizes → length slots ≡ 4
four_slots h xs slots count sizes are =
    sym (length-map slots (shown_at xs)) ∙ ap length are.placed ∙ ap length are.are.slots

at_slot : (h : List Publish) (xs : List Publishing) (slots : List Placed) (count : ℕ) (sizes : Maps) (k : ℕ) → k < 4 → ArePlaced h xs slots count sizes → slice_get slots k ≡ Some (placed_at slots k)
at_slot h xs slots count sizes k few are =
    let four = four_slots h xs slots count sizes are in
    slice_get-get_or slots k first_placed (omega (arith, few, four))

-- each slot's place has a program
pub inside : (h : List Publish) (xs : List Publishing) (slots : List Placed) (count : ℕ) (sizes : Maps) (k : ℕ) → k < 4 → ArePlaced h xs slots count sizes → (placed_at slots k).place < length xs
inside h xs slots count sizes k few are =
    let s = placed_at slots k in
    let found = shows xs slots are.shown are.placed k s (at_slot h xs slots count sizes k few are) in
    let some = some_of s.generation (slice_get xs s.place) found.0 found.2 in
    slice_get_within xs s.place some.0 some.1

-- there is a program
pub some_inside : (h : List Publish) (xs : List Publishing) (slots : List Placed) (count : ℕ) (sizes : Maps) → ArePlaced h xs slots count sizes → 0 < length xs
some_inside h xs slots count sizes are =
    let first = inside h xs slots count sizes 0 (omega arith) are in
    omega (arith, first)

-- the program at a slot's place judges there
pub placed_shows : (h : List Publish) (xs : List Publishing) (slots : List Placed) (count : ℕ) (sizes : Maps) (k : ℕ) (p : Publishing) → k < 4 → ArePlaced h xs slots count sizes
    → slice_get xs (placed_at slots k).place ≡ Some p → judging_program h k ≡ Some (p.program, (placed_at slots k).generation)
placed_shows h xs slots count sizes k p few are there =
    let s = placed_at slots k in
    let found = shows xs slots are.shown are.placed k s (at_slot h xs slots count sizes k few are) in
    let q = found.0 in
    let own : Some (p.program, s.generation) ≡ Some q = sym (ap (option_map (λ (x : Publishing). (x.program, s.generation))) there) ∙ found.2 in
    slot_at are.shown h k q few are.are.slots ∙ ap (λ (x : Pair). Some x) (get_or_from_slice_get are.shown k q q found.1) ∙ sym own

pub placed_sizes : (h : List Publish) (xs : List Publishing) (slots : List Placed) (count : ℕ) (sizes : Maps) (k : ℕ) (p : Publishing) → k < 4 → ArePlaced h xs slots count sizes
    → slice_get xs (placed_at slots k).place ≡ Some p → p.program.sizes ≡ sizes_of h
placed_sizes h xs slots count sizes k p few are there =
    let s = placed_at slots k in
    let found = shows xs slots are.shown are.placed k s (at_slot h xs slots count sizes k few are) in
    let q = found.0 in
    let own : Some (p.program, s.generation) ≡ Some q = sym (ap (option_map (λ (x : Publishing). (x.program, s.generation))) there) ∙ found.2 in
    let same : (p.program, s.generation) ≡ q = cc own in
    let for : q.0.sizes ≡ sizes_of h = subst (λ (x : Pair). x.0.sizes ≡ sizes_of h) (get_or_from_slice_get are.shown k q q found.1) (shown_sizes h are.shown count sizes k q few are.are) in
    subst (λ (x : Pair). x.0.sizes ≡ sizes_of h) (sym same) for

-- ---- one publish more

keeps : (xs ys : List Publishing) (slots : List Placed) → ((k : ℕ) (s : Placed) → slice_get slots k ≡ Some s → slice_get ys s.place ≡ slice_get xs s.place) → shown_by ys slots ≡ shown_by xs slots
keeps xs ys [] same = refl
keeps xs ys (s ∷ slots) same =
    ap₂ (λ (o : Option Pair) (os : List (Option Pair)). o ∷ os)
    (ap (option_map (λ (p : Publishing). (p.program, s.generation))) (same 0 s refl))
    (keeps xs ys slots (λ k t at. same (suc k) t at))

shown_set : (xs ys : List Publishing) (slots : List Placed) (slot : ℕ) (new : Placed) (p : Publishing) → slot < length slots
    → ((k : ℕ) (s : Placed) → k ≢ slot → slice_get slots k ≡ Some s → slice_get ys s.place ≡ slice_get xs s.place) → slice_get ys new.place ≡ Some p
    → shown_by ys (set slots slot new) ≡ set (shown_by xs slots) slot (Some (p.program, new.generation))
shown_set xs ys [] slot new p low same there = absurd (omega (arith, low))
shown_set xs ys (s ∷ slots) zero new p low same there =
    ap₂ (λ (o : Option Pair) (os : List (Option Pair)). o ∷ os)
    (ap (option_map (λ (x : Publishing). (x.program, new.generation))) there)
    (keeps xs ys slots (λ k t at. same (suc k) t (λ e. absurd (omega (arith, e))) at))
shown_set xs ys (s ∷ slots) (suc slot) new p low same there =
    ap₂ (λ (o : Option Pair) (os : List (Option Pair)). o ∷ os)
    (ap (option_map (λ (x : Publishing). (x.program, s.generation))) (same 0 s (λ e. absurd (omega (arith, e))) refl))
    (shown_set xs ys slots slot new p (omega (arith, low)) (λ k t other at. same (suc k) t (λ e. other (omega (arith, e))) at) there)

-- a program in a place that no other slot has
pub longer_placed : IsSetByNext → (h : List Publish) (xs ys : List Publishing) (slots : List Placed) (count : ℕ) (sizes : Maps) (slot place : ℕ) (p : Publishing) → slot < 4 → ArePlaced h xs slots count sizes
    → p.program.sizes ≡ sizes_of h → ((k : ℕ) → k < 4 → k ≢ slot → slice_get ys (placed_at slots k).place ≡ slice_get xs (placed_at slots k).place) → slice_get ys place ≡ Some p
    → ArePlaced (longer_history h slot p.program) ys (set slots slot (record { place = place; generation = count + 1 })) (count + 1) sizes
longer_placed next h xs ys slots count sizes slot place p few are for same there =
    let new : Placed = record { place = place; generation = count + 1 } in
    let pair : Pair = (p.program, count + 1) in
    let four = four_slots h xs slots count sizes are in
    let low : slot < length slots = omega (arith, few, four) in
    let others : (k : ℕ) (s : Placed) → k ≢ slot → slice_get slots k ≡ Some s → slice_get ys s.place ≡ slice_get xs s.place
    = λ k s other at.
    let here = slice_get_within slots k s at in
    let is : placed_at slots k ≡ s = get_or_from_slice_get slots k s first_placed at in
    subst (λ (t : Placed). slice_get ys t.place ≡ slice_get xs t.place) is (same k (omega (arith, here, four)) other) in
    record {
      shown = set are.shown slot pair;
      placed = shown_set xs ys slots slot new p low others there
          ∙ ap (λ (os : List (Option Pair)). set os slot (Some pair)) are.placed
          ∙ sym (map-set (λ (q : Pair). Some q) are.shown slot pair);
      are = longer_slots next h are.shown count sizes slot pair few are.are refl for;
    }

-- the same places with the same programs
pub same_placed : (h : List Publish) (xs ys : List Publishing) (slots : List Placed) (count : ℕ) (sizes : Maps) → ArePlaced h xs slots count sizes
    → ((k : ℕ) (s : Placed) → slice_get slots k ≡ Some s → shown_at ys s ≡ shown_at xs s) → ArePlaced h ys slots count sizes
same_placed h xs ys slots count sizes are same = record {
  shown = are.shown;
  placed = all_same slots same ∙ are.placed;
  are = are.are;
}
  where
    all_same : (ss : List Placed) → ((k : ℕ) (s : Placed) → slice_get ss k ≡ Some s → shown_at ys s ≡ shown_at xs s) → shown_by ys ss ≡ shown_by xs ss
    all_same [] each = refl
    all_same (s ∷ ss) each = ap₂ (λ (o : Option Pair) (os : List (Option Pair)). o ∷ os) (each 0 s refl) (all_same ss (λ k t at. each (suc k) t at))

-- the program at a slot's place once more in that place
pub again_placed : IsSetByNext → (h : List Publish) (xs : List Publishing) (slots : List Placed) (count : ℕ) (sizes : Maps) (slot place : ℕ) (p : Publishing) → slot < 4 → ArePlaced h xs slots count sizes
    → slice_get xs (placed_at slots slot).place ≡ Some p → place ≡ (placed_at slots slot).place
    → ArePlaced (longer_history h slot p.program) xs (set slots slot (record { place = place; generation = count + 1 })) (count + 1) sizes
again_placed next h xs slots count sizes slot place p few are there is =
    longer_placed next h xs xs slots count sizes slot place p few are (placed_sizes h xs slots count sizes slot p few are there) (λ k low other. refl)
    (subst (λ (n : ℕ). slice_get xs n ≡ Some p) (sym is) there)

-- it is the program of which that is known
pub named_there : (xs : List Publishing) (place : ℕ) (p : Publishing) (slot : ℕ) → slice_get xs place ≡ Some p → IfSome (slice_get xs place) (λ x. x.slot ≡ slot) → p.slot ≡ slot
named_there xs place p slot there named = subst (λ (o : Option Publishing). IfSome o (λ x. x.slot ≡ slot)) there named

-- the program at a slot's place is the one that judges there
pub own_judges : (h : List Publish) (xs : List Publishing) (slots : List Placed) (count : ℕ) (sizes : Maps) (slot : ℕ) (p : Publishing) (a : AcceptedValue) → slot < 4 → ArePlaced h xs slots count sizes
    → slice_get xs (placed_at slots slot).place ≡ Some p → program_at h slot ≡ Some a → p.program ≡ a
own_judges h xs slots count sizes slot p a few are there judges =
    let own : program_at h slot ≡ Some p.program = ap (option_map (λ (q : Pair). q.0)) (placed_shows h xs slots count sizes slot p few are there) in
    let same : Some p.program ≡ Some a = sym own ∙ judges in
    cc same

-- the factory program in each slot
pub first_are : (p : Publishing) → ArePlaced (entry 0 p.program ∷ []) (p ∷ []) (first_placed ∷ first_placed ∷ first_placed ∷ first_placed ∷ []) 0 p.program.sizes
first_are p = record {
  shown = (p.program, 0) ∷ (p.program, 0) ∷ (p.program, 0) ∷ (p.program, 0) ∷ [];
  placed = refl;
  are = first_slots p.program;
}
