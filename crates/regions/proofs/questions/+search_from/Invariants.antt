use Rattle.std.proofs.Common.{◌+◌, ◌-◌, ◌*◌, length}
use Rattle.regions.proofs.Searching.{IsOnWay, rank}
use Rattle.regions.proofs.questions.+search_from.Given as goal

abbrev pub decreases-search_from : goal.decreases-search_from
decreases-search_from g l = length (g.Q.PointQuestion.tests l.question.now) - l.number

abbrev pub invariant-cuts : goal.invariant-cuts
invariant-cuts g l = IsOnWay (g.Q.PointQuestion.tests l.question) (g.Q.PointQuestion.holds l.question) l.region l.number l.part l.at l.cutter l.sides

abbrev pub decreases-cuts : goal.decreases-cuts
decreases-cuts g l = 10 * (length (g.Q.PointQuestion.tests l.question) - l.at) + rank l.sides
