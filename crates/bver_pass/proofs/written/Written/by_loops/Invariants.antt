use Rattle.bver_pass.proofs.Masks.{AreWrittenBelow}
use Rattle.bver_pass.proofs.written.Written.by_loops.Given as goal

abbrev pub invariant-loop-place : goal.invariant-loop-place
invariant-loop-place l = AreWrittenBelow l.image l.written l.place
