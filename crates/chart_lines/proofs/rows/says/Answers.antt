use Rattle.chart_lines.proofs.Joining.{said_at}
use Rattle.chart_lines.proofs.rows.says.Goals as goal

pub returns : goal.returns
returns c =
    said_at c.args.rows.now c.args.place c.args.reported.now c.row_at-row.result.now c.reported.result.now c.is.result c.row_at-row.ensures c.reported.ensures c.is.ensures
