use Rattle.std.proofs.Common.{◌<◌}
use Rattle.differences.proofs.repeating.until.Given as goal

abbrev pub invariant-loop-drawn : goal.invariant-loop-drawn
invariant-loop-drawn l = 0 < l.pace
