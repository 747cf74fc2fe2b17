use Rattle.std.proofs.Common.{◌≡◌, [], map, replicate}
use Rattle.std.specs.Vec.{vec_items}
use Rattle.job_ports.proofs.arrivals.Arrivals.new.Given as goal

abbrev pub invariant-loop-port : goal.invariant-loop-port
invariant-loop-port l = map vec_items l.packets.items ≡ replicate l._port []
