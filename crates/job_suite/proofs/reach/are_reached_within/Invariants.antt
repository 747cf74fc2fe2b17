use Rattle.std.proofs.Common.{◌≡◌, drop}
use Rattle.job_suite.specs.Reach.{are_reached_within}
use Rattle.job_suite.proofs.reach.are_reached_within.Given as goal

abbrev pub invariant-loop-range : goal.invariant-loop-range
invariant-loop-range l = are_reached_within (drop l.range-index l.ranges) l.reach ≡ are_reached_within l.ranges l.reach
