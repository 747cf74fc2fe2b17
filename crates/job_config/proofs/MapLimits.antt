-- Maps within their limits.
use Rattle.std.proofs.Common.{◌≡◌, ◌≤◌, ◌+◌, ℕ, All, List, length, map, arith}
use Rattle.std.specs.Prelude.{sum}
use Rattle.std.proofs.lemmas.List.{length-map}
use Rattle.std.proofs.lemmas.List.Elements.{All-map}
use Rattle.machine.specs.Sizes.{AreSizes, listed_maps}
use Rattle.machine.specs.declared.kinds.MapKind.{MapKind}

-- at most eight maps, each of a cell at least, which leave `left` cells of 256
pub sizes_of_maps : (maps : List (ℕ × MapKind)) (left : ℕ) → All (λ m. 1 ≤ m.0) maps → left + sum (map (λ m. m.0) maps) ≡ 256
    → length maps ≤ 8 → AreSizes (listed_maps maps)
sizes_of_maps maps left cells total few = record {
  maps = omega (arith, length-map maps (λ (m : ℕ × MapKind). m.0), few);
  cells = All-map (λ size. 1 ≤ size) (λ m. m.0) maps cells;
  total = omega (arith, total);
  kinds = omega (arith, length-map maps (λ (m : ℕ × MapKind). m.0), length-map maps (λ (m : ℕ × MapKind). m.1));
}
