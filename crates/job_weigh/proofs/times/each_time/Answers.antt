use Rattle.std.proofs.lemmas.List.Elements.{All-more}
use Rattle.job_weigh.specs.Times.{IsTimeIn, value_in}
use Rattle.job_parts.proofs.MapLists.{map-one_more}
use Rattle.job_weigh.proofs.times.each_time.Goals as goal

pub loop-part-preserved : goal.loop-part-preserved
loop-part-preserved c =
    let parts = c.args.parts.now in
    let index = c.loop-part.part-index in
    let written = c.in_ok-time.ensures.ok in (
      All-more (λ part. IsTimeIn c.args.unit part.now) parts index _ c.loop-part-test.true c.loop-part.invariant.0 written.0,
      map-one_more (λ part. value_in c.args.unit part.now) parts index _ c.loop-part.times.items _ _ c.loop-part-test.true
          c.in_ok-push.ensures.items written.1 c.loop-part.invariant.1,
    )
