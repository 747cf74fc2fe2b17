use Rattle.std.proofs.Common.{map}
use Rattle.job_suite.specs.Ranges.{WriteRanges}
use Rattle.job_suite.proofs.ranges.ranges_written.Given as goal

abbrev pub invariant-loop-part : goal.invariant-loop-part
invariant-loop-part l = WriteRanges (map (λ part. part.now) l.yielded) l.ranges.items
