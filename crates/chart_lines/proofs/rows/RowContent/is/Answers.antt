use Rattle.std.proofs.Common.{rules}
use Rattle.chart_lines.proofs.Joining.{by_last}
use Rattle.chart_lines.proofs.rows.RowContent.is.Goals as goal

pub returns-then-are_same : goal.returns-then-are_same
returns-then-are_same c =
    by_last c.are_same-then-are_same.result c.args.self.now c.args.other.now c.new_path.result.now c.new_path-then-are_same.result.now (search rules) (search rules) (search rules) (search rules)
    c.new_path.ensures c.new_path-then-are_same.ensures c.are_same-then-are_same.ensures
