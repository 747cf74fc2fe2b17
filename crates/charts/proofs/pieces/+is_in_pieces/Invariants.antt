use Rattle.std.proofs.Common.{length}
use Rattle.charts.proofs.Joining.{IsJoined}
use Rattle.charts.proofs.pieces.+is_in_pieces.Given as goal

abbrev pub decreases-is_in_pieces : goal.decreases-is_in_pieces
decreases-is_in_pieces l = l.left

abbrev pub invariant-groups : goal.invariant-groups
invariant-groups l = IsJoined l.asked l.all l.old l.new l.lines l.rest l.following

abbrev pub decreases-groups : goal.decreases-groups
decreases-groups l = length l.following
