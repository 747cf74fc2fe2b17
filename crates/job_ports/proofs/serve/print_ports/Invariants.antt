use Rattle.std.proofs.Common.{◌≡◌, map, take}
use Rattle.std.specs.Io.KnownBytes.{Appends}
use Rattle.ports.specs.Sinks.{replies_in}
use Rattle.job_ports.specs.ServeJob.{lines_from}
use Rattle.job_ports.proofs.serve.print_ports.Given as goal

abbrev pub invariant-loop-sink : goal.invariant-loop-sink
invariant-loop-sink g l = (l.port ≡ l.sink-index)
    × Appends (g.W.Write.contents l.fn.out) (g.W.Write.contents l.out) (lines_from 0 (map (λ s. replies_in s.sent) (take l.sink-index l.sinks)))
