use Rattle.std.proofs.Common.{◌++◌}
use Rattle.std.specs.Prelude.{map}
use Rattle.regions.specs.Regions.{lies_in}
use Rattle.charts.specs.Points.{tests_of}
use Rattle.charts.proofs.LineShapes.{line_shape_at, widened}
use Rattle.charts.proofs.RuleShapes.{shape_at}
use Rattle.charts.proofs.lines.rule_or_line.Goals as goal

pub returns-in-Some : goal.returns-in-Some
returns-in-Some c =
    let old = c.args.old.now in
    let new = c.args.new.now in
    widened (tests_of (old ++ new)) (map (λ line. lies_in line.region) c.args.lines.now) c.args.number c.region_of.result
    (shape_at old new c.args.number c.in-Some.rule c.region_of.result c.in-Some.ensures c.region_of.ensures)

pub returns-then-number-lines : goal.returns-then-number-lines
returns-then-number-lines c =
    line_shape_at c.args.old.now c.args.new.now c.args.lines.now c.args.number _ c.in_default.ensures c.if-number-lines.true
