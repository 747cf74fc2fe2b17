use Rattle.node_parts.proofs.Pairings.{made_are_paired}
use Rattle.node_parts.proofs.laws.made_are_paired.Goals as goal

pub returns : goal.returns
returns c = made_are_paired
