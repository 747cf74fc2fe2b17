use Rattle.std.proofs.Common.{take}
use Rattle.charts.proofs.Resting.{plain_point, rest_point, rest_settled}
use Rattle.charts.proofs.rests.point_in.Goals as goal

pub returns-then-not-line : goal.returns-then-not-line
returns-then-not-line c = plain_point c.args.lines.now c.args.place c.args.within.now c.both-region.result _ c.requires c.both-region.ensures c.witness.result c.if-not-line.true c.witness.ensures

pub search_in-requires-clause-settled : goal.search_in-requires-clause-settled
search_in-requires-clause-settled c = rest_settled (take c.args.place c.args.lines.now) _ c.both-region.result

pub returns : goal.returns
returns c = rest_point c.args.lines.now c.args.place c.args.within.now c.both-region.result _ c.requires c.both-region.ensures c.search_in.result c.if-not-line.false c.search_in.ensures
