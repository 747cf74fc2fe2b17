use Rattle.std.proofs.Common.{refl}
use Rattle.policy_table.proofs.BadLines.{no_rule}
use Rattle.policy_table.proofs.lines.rule_in.Goals as goal

pub returns-in-Err-clause-fault : goal.returns-in-Err-clause-fault
returns-in-Err-clause-fault c = (refl, no_rule _ _ c.in-Err.ensures)
