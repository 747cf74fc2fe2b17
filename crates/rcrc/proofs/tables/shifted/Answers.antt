use Rattle.std.proofs.Common.{arith}
use Rattle.rcrc.proofs.Table.{table_entry}
use Rattle.rcrc.proofs.tables.shifted.Goals as goal

pub returns : goal.returns
returns c = table_entry c.args.later c.args.byte c.requires (omega arith)
