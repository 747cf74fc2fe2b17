use Rattle.std.proofs.Common.{◌≡◌, ◌≤◌, length}
use Rattle.rmap.specs.Reply.{without_leading_zeros}
use Rattle.rmap.proofs.reply.without_leading_zeros.Given as goal

abbrev pub invariant-loop-path : goal.invariant-loop-path
invariant-loop-path l =
    (without_leading_zeros l.path ≡ without_leading_zeros l.address) × (length l.path ≤ length l.address)

abbrev pub decreases-loop-path : goal.decreases-loop-path
decreases-loop-path l = length l.path
