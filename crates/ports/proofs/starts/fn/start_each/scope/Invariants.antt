use Rattle.std.specs.Prelude.{◌≡◌, true, false, ◌+◌, ◌<◌, ◌≤◌, ◌++◌, vec_items, vec_len, vec_capacity}
use Rattle.std.specs.Vec.Iter.{into_iter_items, into_iter_len}
use Rattle.ports.specs.Serves.{AreLast, AreServed, AreThreadsOf}
use Rattle.ports.proofs.starts.fn.start_each.scope.Given as goal

-- While all threads could be made, each worker so far has one, and the others are ahead. From then on they go to the
-- rest.
abbrev pub invariant-loop-worker : goal.invariant-loop-worker
invariant-loop-worker g l =
    let done = vec_len l.threads in let ahead = l.worker-iterator in let first = l.initial.worker-iterator in
    (l.all ≡ true → done + into_iter_len ahead ≡ into_iter_len first)
    × (l.all ≡ true → vec_len l.rest ≡ 0)
    × AreLast (vec_items l.rest ++ into_iter_items ahead) (into_iter_items first)
    × AreThreadsOf done (vec_items l.threads) (into_iter_items first)
    × AreServed l.node.now (into_iter_len first) l.ports (into_iter_items first)
    × (done + vec_len l.rest + into_iter_len ahead ≤ into_iter_len first)
    × (into_iter_len first ≤ vec_capacity l.threads)
    × (into_iter_len first ≤ vec_capacity l.rest)
    × (into_iter_len first ≤ done + vec_len l.rest + into_iter_len ahead + 1)
    × (l.all ≡ false → done + vec_len l.rest + into_iter_len ahead < into_iter_len first)
