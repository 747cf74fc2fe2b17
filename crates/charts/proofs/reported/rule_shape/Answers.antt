use Rattle.charts.proofs.RuleShapes.{shape_at}
use Rattle.charts.proofs.reported.rule_shape.Goals as goal

pub returns : goal.returns
returns c = shape_at c.args.old.now c.args.new.now c.args.number c.in-Some.rule c.region_of.result c.in-Some.ensures c.region_of.ensures
