use Rattle.policy_table.proofs.FirstMatches.{first}
use Rattle.policy_table.proofs.Walks.{decides}
use Rattle.policy_table.proofs.laws.first_rule_matches.Goals as goal

pub returns-clause-first : goal.returns-clause-first
returns-clause-first c = first

pub returns-clause-verdict : goal.returns-clause-verdict
returns-clause-verdict c = decides
