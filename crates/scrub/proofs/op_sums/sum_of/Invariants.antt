use Rattle.std.proofs.Common.{◌≡◌, take}
use Rattle.scrub.specs.Sums.{sum_of}
use Rattle.scrub.proofs.op_sums.sum_of.Given as goal

abbrev pub invariant-loop-op : goal.invariant-loop-op
invariant-loop-op l = l.sum ≡ sum_of (take l.op-index l.operations)
