use Rattle.std.proofs.Common.{refl}
use Rattle.bver_form.specs.Lowered.{count_of}
use Rattle.bver_form.proofs.lowered.Lowered.nothing.Goals as goal

pub invariant_of-result : goal.invariant_of-result
unfolding count_of
invariant_of-result c = (refl, refl)

pub returns : goal.returns
unfolding count_of
returns c = refl
