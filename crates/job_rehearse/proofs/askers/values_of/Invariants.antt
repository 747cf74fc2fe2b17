use Rattle.std.proofs.Common.{◌≡◌}
use Rattle.job_rehearse.specs.Askers.{are_values_named, values_below}
use Rattle.job_rehearse.proofs.askers.values_of.Given as goal

abbrev pub invariant-loop-byte : goal.invariant-loop-byte
invariant-loop-byte l =
    (l.values.items ≡ values_below l.rules l.field l.byte) × (l.are_values_named ≡ are_values_named l.rules l.field l.byte)
