use Rattle.std.proofs.Common.{◌≤◌, length}
use Rattle.job_parts.proofs.Joined.{IsUnderWay}
use Rattle.job_parts.proofs.pending.print_joined.Given as goal

abbrev pub invariant-loop-chunk : goal.invariant-loop-chunk
invariant-loop-chunk g l =
    IsUnderWay l.fn.front.items l.chunk-index l.chunks (g.W.Write.contents l.fn.out) (g.W.Write.contents l.out) l.text.items × (length l.text.items ≤ 4)
