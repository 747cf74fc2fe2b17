use Rattle.node_parts.proofs.Pairings.{agrees}
use Rattle.node_parts.proofs.laws.shares_agree.Goals as goal

pub returns : goal.returns
returns c = agrees
