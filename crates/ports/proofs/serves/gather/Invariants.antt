use Rattle.std.specs.Prelude.{◌≡◌, ◌+◌, ◌≤◌, IfNone, IfSome, map, vec_len, vec_capacity}
use Rattle.std.specs.Vec.Iter.{into_iter_items, into_iter_len}
use Rattle.std.specs.List.{All}
use mathlib.Core.List.{IsPrefix}
use Rattle.annals.specs.Chains.{done_for}
use Rattle.ports.specs.Serves.{IsOneMissing, IsWorkerInformed, IsTotalOf}
use Rattle.target.specs.Lines.{CountsAllOf}
use Rattle.ports.proofs.serves.gather.Given as goal

abbrev pub invariant-loop-one : goal.invariant-loop-one
invariant-loop-one g l =
    (l.workers.items ≡ map (λ e. e.worker) l.yielded)
    × IfSome l.total (IsTotalOf (map (λ e. e.report) l.yielded))
    × IfNone l.total (IsOneMissing (map (λ e. e.report) l.yielded))
    × (vec_len l.workers + into_iter_len l.one-iterator ≤ vec_capacity l.workers)
    × (vec_capacity l.initial.workers ≤ vec_capacity l.workers)
    × All (λ w. IsPrefix w.front l.whole) l.workers.items
    × All (λ w. CountsAllOf w.pass.pass l.whole) l.workers.items
    × All (λ w. done_for w.pass.pass.port l.whole ≡ w.pass.asked) l.workers.items
    × All (λ e. IsWorkerInformed l.whole e.worker) (into_iter_items l.one-iterator)
