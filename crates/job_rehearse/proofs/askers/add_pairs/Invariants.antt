use Rattle.std.proofs.Common.{◌≡◌, drop}
use Rattle.job_rehearse.specs.Askers.{with_pairs}
use Rattle.job_rehearse.proofs.askers.add_pairs.Given as goal

abbrev pub invariant-loop-initiator : goal.invariant-loop-initiator
invariant-loop-initiator l =
    with_pairs l.askers.items (drop l.initiator-index l.initiators) l.keys ≡ with_pairs l.initial.askers.items l.initiators l.keys
