use Rattle.std.proofs.Common.{string_bytes}
use Rattle.job_rehearse.specs.OpenPorts.{PrintsFirstAskers}
use Rattle.job_rehearse.proofs.open_ports.add_askers.Given as goal

abbrev pub invariant-loop-place : goal.invariant-loop-place
invariant-loop-place l = PrintsFirstAskers l.judge l.image l.node l.lead l.askers l.place (string_bytes l.fn.text) (string_bytes l.text)
