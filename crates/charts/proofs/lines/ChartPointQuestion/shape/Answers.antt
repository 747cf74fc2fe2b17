use Rattle.std.proofs.Common.{◌++◌, arith}
use Rattle.std.specs.Prelude.{map}
use Rattle.regions.specs.Regions.{lies_in}
use Rattle.charts.specs.Points.{tests_of}
use Rattle.charts.proofs.LineShapes.{later_shape}
use Rattle.charts.proofs.lines.ChartPointQuestion.shape.Goals as goal

pub returns : goal.returns
returns c =
    let self = c.args.self.now in
    later_shape (lies_in self.asked.now) (tests_of (self.old.now ++ self.new.now) ++ map (λ line. lies_in line.region) self.lines.now) c.args.number c.rule_or_line.result
    (omega (arith, c.if-number-eq0.false)) c.rule_or_line.ensures
