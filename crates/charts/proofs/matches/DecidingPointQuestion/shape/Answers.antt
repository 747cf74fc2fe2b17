use Rattle.charts.proofs.RuleShapes.{rule_shape_at}
use Rattle.charts.proofs.matches.DecidingPointQuestion.shape.Goals as goal

pub returns-then-number-self : goal.returns-then-number-self
returns-then-number-self c = rule_shape_at c.args.self.now.rules.now c.args.number _ c.region_of.result c.if-number-self.true c.region_of.ensures
