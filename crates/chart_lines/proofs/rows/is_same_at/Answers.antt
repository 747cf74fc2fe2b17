use Rattle.chart_lines.proofs.Joining.{same_at}
use Rattle.chart_lines.proofs.rows.is_same_at.Goals as goal

pub returns : goal.returns
returns c =
    same_at c.args.one.now c.args.other.now c.args.place c.step_at-own.result c.step_at-its.result c.is_same_step.result c.step_at-own.ensures c.step_at-its.ensures c.is_same_step.ensures
