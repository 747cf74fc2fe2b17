-- What a table of programs shows.
use Rattle.std.proofs.Common.{◌≡◌, ℕ, ◌<◌, List, [], ◌∷◌, ◌++◌, length, slice_index_or, slice_set, arith}
use Rattle.node_programs.specs.declared.publishes.Publish.{Publish}
use Rattle.node_programs.specs.Histories.{entry}
use Rattle.node_programs.specs.Published.{sizes_of}
use Rattle.node_programs.specs.Laws.{IsSetByNext}
use Rattle.node_programs.proofs.Shelves.{Pair, for_snoc, published_for, sizes_stay, slot_at, slots_next}
use Rattle.publish.specs.Tables.{IsPublishedTable}

pub table_some : (slots : List Pair) (h : List Publish) → IsPublishedTable slots h → 0 < length h
table_some [] [] is = absurd (cc is.slots)
table_some (a ∷ rest) [] is = absurd (cc is.slots)
table_some slots (f ∷ ps) is = omega arith

pub table_sizes : (slots : List Pair) (h : List Publish) (k : ℕ) (d : Pair) → k < 4 → IsPublishedTable slots h → (slice_index_or slots k d).0.sizes ≡ sizes_of h
table_sizes slots h k d few is = published_for h k (slice_index_or slots k d) is.sizes (slot_at slots h k d few is.slots)

pub table_next : IsSetByNext → (slots : List Pair) (h : List Publish) (slot : ℕ) (s : Pair) → slot < 4 → IsPublishedTable slots h → s.1 ≡ length h → s.0.sizes ≡ sizes_of h
    → IsPublishedTable (slice_set slots slot s) (h ++ entry slot s.0 ∷ [])
table_next next slots h slot s few is gen sizes =
    let some = table_some slots h is in
    let stay = sizes_stay h (entry slot s.0 ∷ []) some in
    record {
      slots = slots_next next slots h slot s few some is.slots gen;
      sizes = rw stay (for_snoc (sizes_of h) h (entry slot s.0) is.sizes sizes);
    }
