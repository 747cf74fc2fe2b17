use Rattle.std.specs.Prelude.{◌≡◌, ℕ, ◌+◌, ◌<◌, ◌≤◌, get_or, vec_items, vec_len, vec_capacity}
use Rattle.std.specs.Vec.Iter.{into_iter_items, into_iter_len}
use Rattle.std.specs.PromisedHandle.{KeepsAt}
use Rattle.ports.proofs.serves.join_each.Given as goal

abbrev pub invariant-loop-thread : goal.invariant-loop-thread
invariant-loop-thread g l =
    let done = vec_len l.all in let rest = l.thread-iterator in let first = l.initial.thread-iterator in
    (done + into_iter_len rest ≡ into_iter_len first)
    × ((k : ℕ) (d : _) → k < into_iter_len rest → get_or (into_iter_items rest) k d ≡ get_or (into_iter_items first) (done + k) d)
    × ((k : ℕ) (x : _) → k < done → KeepsAt g.P.Promise (into_iter_items first) k (get_or (vec_items l.all) k x))
    × (into_iter_len first ≤ vec_capacity l.all)
