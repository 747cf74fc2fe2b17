use Rattle.std.proofs.Common.{◌≡◌}
use Rattle.machine.proofs.Filled.{IsFilledTo}
use Rattle.machine.proofs.sizes.cells_of.Given as goal

abbrev pub invariant-loop-map : goal.invariant-loop-map
invariant-loop-map l = record {
  index : l.index ≡ l.map-index;
  filled : IsFilledTo (λ m. m.0) 0 l.map-index l.maps l.cells;
}
