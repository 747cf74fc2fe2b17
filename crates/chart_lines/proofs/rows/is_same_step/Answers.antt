use Rattle.std.proofs.Common.{rules}
use Rattle.chart_lines.proofs.Joining.{by_rule}
use Rattle.chart_lines.proofs.rows.is_same_step.Goals as goal

pub returns-then-one-other : goal.returns-then-one-other
returns-then-one-other c = by_rule c.is_same_rule.result c.args.one.now c.args.other.now (search rules) c.is_same_rule.ensures
