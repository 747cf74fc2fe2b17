use Rattle.std.proofs.Common.{◌+◌, ◌-◌, ◌*◌, length}
use Rattle.regions.proofs.Filling.{IsFilling}
use Rattle.regions.proofs.Searching.{rank}
use Rattle.regions.proofs.cutting.+fill_from.Given as goal

abbrev pub decreases-fill_from : goal.decreases-fill_from
decreases-fill_from g l = length (g.Q.PointQuestion.tests l.question.now) - l.number

abbrev pub invariant-cuts : goal.invariant-cuts
invariant-cuts g l =
    IsFilling (g.Q.PointQuestion.tests l.question) (g.Q.PointQuestion.holds l.question) (g.Q.PointQuestion.fails l.question) l.region l.number l.part l.at l.cutter l.sides l.fn.cells.items l.cells.items

abbrev pub decreases-cuts : goal.decreases-cuts
decreases-cuts g l = 10 * (length (g.Q.PointQuestion.tests l.question) - l.at) + rank l.sides
