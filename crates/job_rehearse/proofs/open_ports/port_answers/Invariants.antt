use Rattle.job_rehearse.specs.OpenPorts.{AreOpen}
use Rattle.job_rehearse.proofs.open_ports.port_answers.Given as goal

abbrev pub invariant-loop-port : goal.invariant-loop-port
invariant-loop-port l = AreOpen l.judge l.image l.node l.asker l.port l.answers.items
