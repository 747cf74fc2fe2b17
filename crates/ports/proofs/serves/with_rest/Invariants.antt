use Rattle.std.specs.Prelude.{◌≡◌, ◌+◌, ◌≤◌, ◌++◌, vec_len, vec_capacity}
use Rattle.std.specs.Vec.Iter.{into_iter_len}
use Rattle.ports.proofs.serves.with_rest.Given as goal

abbrev pub invariant-loop-worker : goal.invariant-loop-worker
invariant-loop-worker g l =
    (l.workers.items ≡ l.initial.workers.items ++ l.yielded)
    × (vec_len l.workers + into_iter_len l.worker-iterator ≤ vec_capacity l.workers)
