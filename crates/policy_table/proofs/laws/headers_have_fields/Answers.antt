use Rattle.policy_table.proofs.Outcomes.{have_fields}
use Rattle.policy_table.proofs.laws.headers_have_fields.Goals as goal

pub returns : goal.returns
returns c = have_fields
