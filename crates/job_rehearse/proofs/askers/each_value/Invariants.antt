use Rattle.std.proofs.Common.{◌≡◌}
use Rattle.job_rehearse.specs.Askers.{each_below}
use Rattle.job_rehearse.proofs.askers.each_value.Given as goal

abbrev pub invariant-loop-byte : goal.invariant-loop-byte
invariant-loop-byte l = l.values.items ≡ each_below l.byte
