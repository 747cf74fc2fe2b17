use Rattle.chart_lines.proofs.WitnessPoints.{witness_or_none}
use Rattle.chart_lines.proofs.witnesses.some_point.Goals as goal

pub returns : goal.returns
returns c = witness_or_none c.args.lines.now c.args.place c.whole-whole.result c.point_of.result c.whole-whole.ensures c.point_of.ensures
