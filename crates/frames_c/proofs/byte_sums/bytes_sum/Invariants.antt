use Rattle.std.proofs.Common.{◌≡◌, take}
use Rattle.sums.specs.Sums.{sum_from}
use Rattle.frames_c.proofs.byte_sums.bytes_sum.Given as goal

abbrev pub invariant-loop-byte : goal.invariant-loop-byte
invariant-loop-byte l = l.sum ≡ sum_from l.before (take l.byte-index l.bytes)
