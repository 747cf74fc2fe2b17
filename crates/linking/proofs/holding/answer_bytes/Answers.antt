use Rattle.std.proofs.Common.{refl}
use Rattle.linking.proofs.Answering.{none_taken, more_taken}
use Rattle.linking.proofs.holding.answer_bytes.Goals as goal

pub loop-rest-init : goal.loop-rest-init
loop-rest-init g c = none_taken _ _ _ _ _ _ _

pub loop-rest-preserved : goal.loop-rest-preserved
loop-rest-preserved g c = more_taken c.frames_are_read.ensures _ _ _ _ _ _ _ _ _ _ _ _ _ _ _ _ c.loop-rest.invariant c.in_ok-count.ensures.read c.in_ok-count.ensures.answered refl
