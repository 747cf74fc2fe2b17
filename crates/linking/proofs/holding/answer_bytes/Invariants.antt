use Rattle.std.proofs.Common.{length}
use Rattle.linking.proofs.Answering.{AreTaken}
use Rattle.linking.proofs.holding.answer_bytes.Given as goal

abbrev pub invariant-loop-rest : goal.invariant-loop-rest
invariant-loop-rest g l = AreTaken g.N.Target.served g.L.Link.sent g.L.Link.reported l.fn.reader l.reader l.bytes l.rest l.fn.target l.target l.fn.link l.link

abbrev pub decreases-loop-rest : goal.decreases-loop-rest
decreases-loop-rest g l = length l.rest
