use Rattle.bver_pass.proofs.Widening.{declared_read}
use Rattle.bver_pass.proofs.body.Body.new.Goals as goal

pub invariant_of-result : goal.invariant_of-result
invariant_of-result c =
    let declared = declared_read c.args.image.now _ c.index-loops-place.result c.args.place c.loops.ensures.program c.requires.inside c.loops.ensures.value c.index-loops-place.is in
    (declared, c.requires.written.each _ c.args.place declared _)

pub returns-clause-declared : goal.returns-clause-declared
returns-clause-declared c = declared_read _ _ _ _ c.loops.ensures.program c.requires.inside c.loops.ensures.value c.index-loops-place.is
