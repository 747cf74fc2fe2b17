use Rattle.policy_table.proofs.Readings.{one_table}
use Rattle.policy_table.proofs.laws.table_is_unambiguous.Goals as goal

pub returns : goal.returns
returns c = one_table
