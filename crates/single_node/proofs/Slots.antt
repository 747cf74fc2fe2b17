-- What the four slots show.
use Rattle.std.proofs.Common.{◌≡◌, ℕ, ◌+◌, ◌<◌, List, [], ◌∷◌, length, slice_index_or, slice_set, refl, sym, ◌∙◌, arith, length-append}
use Rattle.machine.specs.Sizes.{Maps}
use Rattle.bver.specs.Justified.{AcceptedValue}
use Rattle.node_programs.specs.declared.publishes.Publish.{Publish}
use Rattle.node_programs.specs.Histories.{entry, longer_history}
use Rattle.node_programs.specs.Laws.{IsSetByNext}
use Rattle.node_programs.specs.Published.{sizes_of}
use Rattle.node_programs.proofs.Shelves.{Pair, for_snoc, published_for, sizes_stay, slot_at, slots_next}
use Rattle.single_node.specs.Slots.{AreSlotsShown}

-- what a slot shows was accepted for the maps of the node
pub shown_sizes : (h : List Publish) (slots : List Pair) (count : ℕ) (sizes : Maps) (k : ℕ) (d : Pair) → k < 4 → AreSlotsShown h slots count sizes → (slice_index_or slots k d).0.sizes ≡ sizes_of h
shown_sizes h slots count sizes k d few are = published_for h k (slice_index_or slots k d) are.for_sizes (slot_at slots h k d few are.slots)

-- the slots of the factory program
pub first_slots : (a : AcceptedValue) → AreSlotsShown (entry 0 a ∷ []) ((a, 0) ∷ (a, 0) ∷ (a, 0) ∷ (a, 0) ∷ []) 0 a.sizes
first_slots a = record { slots = refl; counted = refl; sizes_are = refl; for_sizes = (refl, tt) }

-- the slots with one publish more
pub longer_slots : IsSetByNext → (h : List Publish) (slots : List Pair) (count : ℕ) (sizes : Maps) (slot : ℕ) (s : Pair) → slot < 4 → AreSlotsShown h slots count sizes
    → s.1 ≡ count + 1 → s.0.sizes ≡ sizes_of h → AreSlotsShown (longer_history h slot s.0) (slice_set slots slot s) (count + 1) sizes
longer_slots next h slots count sizes slot s few are gen for =
    let some : 0 < length h = omega (arith, are.counted) in
    let stay = sizes_stay h (entry slot s.0 ∷ []) some in
    record {
      slots = slots_next next slots h slot s few some are.slots (gen ∙ sym are.counted);
      counted = omega (arith, are.counted, length-append h (entry slot s.0 ∷ []));
      sizes_are = are.sizes_are ∙ sym stay;
      for_sizes = rw stay (for_snoc (sizes_of h) h (entry slot s.0) are.for_sizes for);
    }
