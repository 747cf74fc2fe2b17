use Rattle.std.proofs.Common.{◌≡◌}
use Rattle.machine.specs.declared.kinds.MapKind.TheVariants.{Counter}
use Rattle.machine.proofs.Filled.{IsFilledTo}
use Rattle.machine.proofs.sizes.kinds_of.Given as goal

abbrev pub invariant-loop-map : goal.invariant-loop-map
invariant-loop-map l = record {
  index : l.index ≡ l.map-index;
  filled : IsFilledTo (λ m. m.1) Counter l.map-index l.maps l.kinds;
}
