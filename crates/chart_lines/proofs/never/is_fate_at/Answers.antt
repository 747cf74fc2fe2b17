use Rattle.chart_lines.proofs.Somewhere.{fate_at}
use Rattle.chart_lines.proofs.never.is_fate_at.Goals as goal

pub returns : goal.returns
returns c =
    fate_at c.args.fate c.args.tables.now c.args.line c.args.place c.table_at.result.now c.is_fate.result c.table_at.ensures c.is_fate.ensures
