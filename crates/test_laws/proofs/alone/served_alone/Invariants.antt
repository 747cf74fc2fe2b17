use Rattle.test_laws.specs.Runs.{EndedSo}
use Rattle.test_laws.proofs.alone.served_alone.Given as goal

abbrev pub invariant-loop-turn : goal.invariant-loop-turn
invariant-loop-turn l = EndedSo l.config l.fn.factory l.node
