use Rattle.std.proofs.Common.{arith}
use Rattle.machine.specs.declared.kinds.MapKind.TheVariants.{Counter}
use Rattle.machine.proofs.Filled.{filled_more, filled_all}
use Rattle.machine.proofs.sizes.kinds_of.Goals as goal

pub loop-map-preserved : goal.loop-map-preserved
loop-map-preserved c =
    let h = c.loop-map.invariant in
    record {
      index = omega (arith, h.index);
      filled = rw h.index (filled_more (λ m. m.1) Counter c.loop-map.map-index c.args.maps.now c.loop-map.kinds (0, Counter) c.requires c.loop-map-test.true h.filled);
    }

pub returns : goal.returns
returns c = filled_all (λ m. m.1) Counter c.loop-map.map-index c.args.maps.now c.loop-map.kinds c.loop-map-test.false c.loop-map.auto.map-index-end c.loop-map.invariant.filled
