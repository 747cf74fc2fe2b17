use Rattle.std.proofs.Common.{◌≡◌, string_bytes}
use Rattle.job_rehearse.specs.OpenPorts.{first_of_run, with_runs}
use Rattle.job_rehearse.proofs.open_ports.add_runs.Given as goal

abbrev pub invariant-loop-port : goal.invariant-loop-port
invariant-loop-port l =
    (string_bytes l.text ≡ with_runs (string_bytes l.initial.text) l.answers l.kind l.lead l.words l.port)
    × (l.first ≡ first_of_run l.answers l.kind l.port)
