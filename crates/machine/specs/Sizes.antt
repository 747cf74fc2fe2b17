-- The maps that a node has: a choice of this target, since RFC 9669 leaves maps to the platform (section 5.4.1).
use Rattle.std.specs.Prelude.{◌≡◌, ◌≤◌, ◌<◌, ℕ, Bool, true, false, List, map, length, replicate, sum, All}
use Rattle.std.specs.Prelude.{slice_index, slice_index_or}
use Rattle.machine.specs.declared.kinds.MapKind.{MapKind}
use Rattle.machine.specs.declared.kinds.MapKind.TheVariants.{Counter, Peak}

-- ---- the statement

-- the maps of a node, by their index: how many cells each has, and what its cells are for
pub record Maps : Type 0 where
  pub cells : List ℕ
  pub kinds : List MapKind

-- what the cells of the map are for; if there is no such map, they count
abbrev pub kind_of_map : Maps → (map : ℕ) → MapKind
kind_of_map maps map = slice_index_or maps.kinds map Counter

-- whether the cells of a map of the kind count
abbrev pub is_counter : MapKind → Bool
is_counter Counter = true
is_counter Peak = false

-- the cell lies in a map that exists
pub record IsInside (sizes : Maps) (map key : ℕ) : Type 0 where
  pub map_exists : map < length sizes.cells
  pub key_exists : key < slice_index sizes.cells map

-- ---- what else contracts and proofs say

-- counter maps of these sizes
abbrev pub counter_maps : List ℕ → Maps
counter_maps cells = record { cells = cells; kinds = replicate (length cells) Counter }

-- the maps of these sizes and kinds
abbrev pub listed_maps : List (ℕ × MapKind) → Maps
listed_maps maps = record { cells = map (λ m. m.0) maps; kinds = map (λ m. m.1) maps }

-- at most eight maps, none without cells, at most 256 cells in all, and each map of one kind
pub record AreSizes (sizes : Maps) : Type 0 where
  pub maps : length sizes.cells ≤ 8
  pub cells : All (λ size. 1 ≤ size) sizes.cells
  pub total : sum sizes.cells ≤ 256
  pub kinds : length sizes.kinds ≡ length sizes.cells
