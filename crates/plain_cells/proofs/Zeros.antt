-- There is a word for each cell.
use Rattle.std.proofs.Common.{◌≡◌, ◌==◌, ◌<◌, ℕ, zero, suc, Bool, true, false, List, [], ◌∷◌, length, get_or, set, refl, ap, ◌∙◌}
use Rattle.std.specs.Prelude.{map, replicate, slice_index, slice_index_or}
use Rattle.std.proofs.lemmas.Bool.{eqb-false, eqb-true}
use Rattle.std.proofs.lemmas.Grind.{get_or-set_at}
use Rattle.std.proofs.lemmas.List.{get_or-map, get_or-set_other, length-map, length-replicate, length-set}
use Rattle.machine.specs.Sizes.{IsInside, Maps}
use Rattle.plain_cells.specs.Words.{AreCells, AreZeros, with_word, zero_words}

-- ---- words of 0

pub zero_cells : (sizes : Maps) → AreCells sizes (zero_words sizes)
zero_cells sizes = record {
  maps = length-map sizes.cells (λ n. replicate n 0);
  cells = λ k below. ap length (get_or-map (λ n. replicate n 0) sizes.cells k 0 [] below) ∙ length-replicate (slice_index sizes.cells k) 0;
}

zero_in : (n key : ℕ) → slice_index (replicate n 0) key ≡ 0
zero_in zero key = refl
zero_in (suc n) zero = refl
zero_in (suc n) (suc key) = zero_in n key

zero_by : (cells : List ℕ) (k key : ℕ) → slice_index (slice_index_or (map (λ n. replicate n 0) cells) k []) key ≡ 0
zero_by [] k key = refl
zero_by (n ∷ cells) zero key = zero_in n key
zero_by (n ∷ cells) (suc k) key = zero_by cells k key

pub zeros : (sizes : Maps) → AreZeros (zero_words sizes)
zeros sizes k key = zero_by sizes.cells k key

-- ---- words that are written

-- the words of each map are as many after a write
pub map_keeps : (words : List (List ℕ)) (k : ℕ) (new : List ℕ) (map : ℕ) → k < length words → length new ≡ length (get_or words k []) → (own : Bool) → (map == k) ≡ own → length (get_or (set words k new) map []) ≡ length (get_or words map [])
map_keeps words k new map below same true own =
    let here = eqb-true map k own in
    ap length (get_or-set_at words k map new [] here below) ∙ same ∙ rw here refl
map_keeps words k new map below same false own = ap length (get_or-set_other words k map new [] (eqb-false map k own))

pub cells_keep : (sizes : Maps) (words : List (List ℕ)) (map key word : ℕ) → map < length words → AreCells sizes words → AreCells sizes (with_word words map key word)
cells_keep sizes words map key word below is = record {
  maps = length-set words map _ ∙ is.maps;
  cells = λ m there. map_keeps words map _ m below (length-set (get_or words map []) key word) (m == map) refl ∙ is.cells m there;
}

-- a cell that is asked for is there
pub cell_there : (sizes : Maps) (words : List (List ℕ)) (map key : ℕ) → IsInside sizes map key → AreCells sizes words → (map < length words) × (key < length (slice_index_or words map []))
cell_there sizes words map key inside is =
    (rw is.maps inside.map_exists, rw (is.cells map inside.map_exists) inside.key_exists)
