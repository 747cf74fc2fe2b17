use Rattle.scrub.proofs.FirstBroken.{AreWholeBelow}
use Rattle.scrub.proofs.damage.broken_place.Given as goal

abbrev pub invariant-loop-place : goal.invariant-loop-place
invariant-loop-place l = AreWholeBelow l.entries l.place
