use Rattle.std.proofs.Common.{◌≡◌, length}
use Rattle.std.specs.Prelude.{vec_items, vec_len}
use Rattle.std.specs.Vec.Iter.{into_iter_items}
use Rattle.job_ports.specs.Quotas.{AreSeated, AreTakenBack}
use Rattle.job_ports.proofs.Rejoining.{AreRejoined}
use Rattle.job_ports.proofs.queues.sinks_of.Given as goal

abbrev pub invariant-loop-worker : goal.invariant-loop-worker
invariant-loop-worker g l = (vec_len l.sinks ≡ length l.yielded)
    × AreRejoined l.ports (vec_items l.fn.put_passes) (vec_items l.put_passes) l.yielded (vec_items l.sinks)
    × AreTakenBack l.fn.cells l.cells l.yielded
    × AreSeated l.fn.cells (into_iter_items l.worker-iterator)
