use Rattle.std.proofs.Common.{rules, ◌≡◌}
use Rattle.std.proofs.lemmas.List.{length-replicate}
use Rattle.machine.specs.declared.kinds.MapKind.TheVariants.{Counter}
use Rattle.machine.specs.Sizes.{AreSizes, counter_maps}
use Rattle.machine.proofs.Filled.{are_counters, counters_seen}
use Rattle.machine.proofs.sizes.MapSizes.new.Goals as goal

pub invariant_of-result : goal.invariant_of-result
invariant_of-result c =
    let sizes : AreSizes (counter_maps c.args.sizes.now) = record { maps = search rules; cells = search rules; total = search rules; kinds = length-replicate _ Counter } in
    let copied : c.copy_from_slice.new.self ≡ c.args.sizes.now = c.copy_from_slice.ensures.after in
    rw copied (are_counters c.args.sizes.now sizes)

pub returns-clause-sizes : goal.returns-clause-sizes
returns-clause-sizes c =
    let copied : c.copy_from_slice.new.self ≡ c.args.sizes.now = c.copy_from_slice.ensures.after in
    rw copied (counters_seen c.args.sizes.now c.if-sizes-gt-MAX_MAPS.false)
