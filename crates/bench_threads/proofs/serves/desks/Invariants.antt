use Rattle.std.specs.Prelude.{vec_len, vec_items}
use Rattle.ports.specs.Serves.{AreServed}
use Rattle.bench_threads.proofs.serves.desks.Given as goal

abbrev pub invariant-loop-pass : goal.invariant-loop-pass
invariant-loop-pass g l = AreServed l.node (vec_len l.workers) (vec_items l.ports) (vec_items l.workers)
