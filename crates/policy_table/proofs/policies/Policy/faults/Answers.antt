use Rattle.policy_table.proofs.ReadingSo.{found_so}
use Rattle.policy_table.proofs.ReportOf.{is_reported}
use Rattle.policy_table.proofs.policies.Policy.faults.Goals as goal

pub returns-clause-all : goal.returns-clause-all
returns-clause-all c = found_so _ _ _ _ _ _ c.policy_reading_of-version.ensures.how c.in_ok-all.ensures

pub returns-clause-reported_fault : goal.returns-clause-reported_fault
returns-clause-reported_fault c = is_reported _ _ _ (found_so _ _ _ _ _ _ c.policy_reading_of-version.ensures.how c.in_ok-all.ensures)
