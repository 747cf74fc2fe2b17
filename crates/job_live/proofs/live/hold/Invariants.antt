use Rattle.job_live.proofs.LinesInTurn.{IsUnderWay}
use Rattle.job_live.proofs.live.hold.Given as goal

abbrev pub invariant-loop-number : goal.invariant-loop-number
invariant-loop-number g l = IsUnderWay g.T.Talk.received g.T.Talk.sent l.at_once l.number l.fn.node l.node l.fn.talk l.talk l.some_bad
