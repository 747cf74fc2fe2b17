use Rattle.bver_pass.proofs.Masks.{one_loop}
use Rattle.bver_pass.proofs.Widening.{declared_read, declared_within}
use Rattle.bver_pass.proofs.written.Written.by_loop_at.Goals as goal

pub by_loop-requires : goal.by_loop-requires
by_loop-requires c =
    (declared_read c.args.image.now _ c.index-loops-place.result c.args.place c.loops.ensures.program c.requires.inside c.loops.ensures.value c.index-loops-place.is).limits

pub returns : goal.returns
returns c = λ declared there.
    let here = declared_read c.args.image.now _ c.index-loops-place.result c.args.place c.loops.ensures.program c.requires.inside c.loops.ensures.value c.index-loops-place.is in
    one_loop c.args.image.now declared c.index-loops-place.result c.args.place c.by_loop.result there here
    (c.by_loop.ensures c.args.image.now c.requires.facts (declared_within c.args.image.now c.index-loops-place.result c.args.place c.loops.ensures.program here))
