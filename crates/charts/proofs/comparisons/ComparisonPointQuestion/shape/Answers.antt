use Rattle.std.proofs.Common.{◌++◌, arith}
use Rattle.regions.specs.Regions.{lies_in}
use Rattle.charts.specs.Points.{tests_of}
use Rattle.charts.proofs.LineShapes.{later_shape}
use Rattle.charts.proofs.comparisons.ComparisonPointQuestion.shape.Goals as goal

pub returns : goal.returns
returns c =
    let self = c.args.self.now in
    later_shape (lies_in self.asked.now) (tests_of (self.old.now ++ self.new.now)) c.args.number c.rule_shape.result (omega (arith, c.if-number-eq0.false)) c.rule_shape.ensures
