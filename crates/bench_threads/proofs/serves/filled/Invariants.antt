use Rattle.ports.specs.Queue.{IsPutPassOf}
use Rattle.bench_threads.proofs.serves.filled.Given as goal

abbrev pub invariant-loop-packet : goal.invariant-loop-packet
invariant-loop-packet g l = IsPutPassOf l.port l.put_pass
