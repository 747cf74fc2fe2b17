use Rattle.std.proofs.Common.{◌-◌, arith}
use Rattle.regions.proofs.Lying.{met_more}
use Rattle.regions.proofs.regions.PointRegion.+met.Goals as goal

pub returns : goal.returns
returns t c = λ p has. met_more c.args.self c.inside.result c.met.result c.args.shape.now p (c.args.left - 1) c.args.left c.side_of.result (omega (arith, c.if-left-eq0.false)) c.side_of.ensures (c.inside.ensures p has) (c.met.ensures p has)
