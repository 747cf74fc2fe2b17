use Rattle.std.proofs.lemmas.List.Elements.{All-more}
use Rattle.job_parts.specs.Options.{IsMapPart, map_of_part}
use Rattle.job_parts.proofs.MapLists.{map-one_more}
use Rattle.job_parts.proofs.options.maps_written.Goals as goal

pub loop-part-preserved : goal.loop-part-preserved
loop-part-preserved c =
    let parts = c.args.parts.now in
    let index = c.loop-part.part-index in
    let written = c.in_ok-map.ensures in (
      All-more (λ part. IsMapPart part.now) parts index _ c.loop-part-test.true c.loop-part.invariant.0 written.0,
      map-one_more (λ part. map_of_part part.now) parts index _ c.loop-part.maps.items _ _ c.loop-part-test.true
          c.in_ok-push.ensures.items written.1 c.loop-part.invariant.1,
    )
