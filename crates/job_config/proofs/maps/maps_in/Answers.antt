use Rattle.std.proofs.Common.{arith}
use Rattle.job_config.proofs.MapLimits.{sizes_of_maps}
use Rattle.job_config.proofs.maps.maps_in.Goals as goal

pub returns-clause-sizes : goal.returns-clause-sizes
returns-clause-sizes c = λ few.
    let (same, long, cells, total) = c.loop-item.invariant in
    sizes_of_maps c.loop-item.maps.items c.loop-item.left cells total (omega (arith, long, few, c.loop-item.auto.item-index-end))
