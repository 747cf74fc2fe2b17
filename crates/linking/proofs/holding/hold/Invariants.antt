use Rattle.linking.proofs.Answering.{IsUnderWay}
use Rattle.linking.proofs.holding.hold.Given as goal

abbrev pub invariant-loop-count : goal.invariant-loop-count
invariant-loop-count g l = IsUnderWay g.N.Target.served g.L.Link.received g.L.Link.sent g.L.Link.reported l._count l.fn.reader l.reader l.fn.target l.target l.fn.link l.link
