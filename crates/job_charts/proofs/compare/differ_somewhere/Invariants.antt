use Rattle.std.proofs.Common.{◌<◌, ℕ}
use Rattle.job_charts.specs.ComparedFile.{AreSameIfCharted}
use Rattle.job_charts.proofs.compare.differ_somewhere.Given as goal

abbrev pub invariant-loop-port : goal.invariant-loop-port
invariant-loop-port l = (port : ℕ) → port < l.port → AreSameIfCharted l.asked l.old l.new port
