use Rattle.std.proofs.Common.{map}
use Rattle.std.specs.Prelude.{vec_items}
use Rattle.job_ports.specs.Queues.{AreFilled}
use Rattle.job_ports.proofs.queues.fill.Given as goal

abbrev pub invariant-loop-packets : goal.invariant-loop-packets
invariant-loop-packets g l = AreFilled (map vec_items l.yielded) (vec_items l.ports) (vec_items l.put_passes) (vec_items l.serve_passes)
