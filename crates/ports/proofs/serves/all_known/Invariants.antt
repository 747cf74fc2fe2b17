use Rattle.ports.proofs.Served.{AreKnownTo}
use Rattle.ports.proofs.serves.all_known.Given as goal

-- what the first workers know begins what is known
abbrev pub invariant-loop-one : goal.invariant-loop-one
invariant-loop-one g l = AreKnownTo l.one-index l.ended l.known
