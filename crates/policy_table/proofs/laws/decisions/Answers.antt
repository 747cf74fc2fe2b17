use Rattle.policy_table.proofs.Outcomes.{draws_are_few, draws_are_answered, first_rule, no_rule}
use Rattle.policy_table.proofs.laws.decisions.Goals as goal

pub returns-clause-few : goal.returns-clause-few
returns-clause-few c = draws_are_few

pub returns-clause-answered : goal.returns-clause-answered
returns-clause-answered c = draws_are_answered

pub returns-clause-first : goal.returns-clause-first
returns-clause-first c = first_rule

pub returns-clause-none : goal.returns-clause-none
returns-clause-none c = no_rule
