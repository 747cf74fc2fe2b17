use Rattle.std.proofs.Common.{rules}
use Rattle.chart_lines.proofs.Joining.{by_end, other_want}
use Rattle.chart_lines.proofs.rows.is_same_rule.Goals as goal

pub returns-then-want_same : goal.returns-then-want_same
returns-then-want_same c = by_end c.end_same.result c.args.one.now c.args.other.now (search rules) c.end_same.ensures

pub returns-else-want_same : goal.returns-else-want_same
returns-else-want_same c = other_want c.want_same.result c.args.one.now c.args.other.now (search rules) c.want_same.ensures
