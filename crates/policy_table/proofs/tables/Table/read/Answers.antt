use Rattle.policy_table.proofs.Fitting.{rules_fit}
use Rattle.policy_table.proofs.tables.Table.read.Goals as goal

pub invariant_of-result : goal.invariant_of-result
invariant_of-result c = rules_fit _ _ c.in_ok-rules.ensures.read
