use Rattle.std.proofs.Common.{◌≡◌, drop}
use Rattle.job_rehearse.specs.Askers.{with_keys}
use Rattle.job_rehearse.proofs.askers.add_keys.Given as goal

abbrev pub invariant-loop-key : goal.invariant-loop-key
invariant-loop-key l =
    with_keys l.askers.items l.initiator (drop l.key-index l.keys) ≡ with_keys l.initial.askers.items l.initiator l.keys
