use Rattle.node_parts.proofs.Pairings.{paired_commands_fit}
use Rattle.node_parts.proofs.laws.paired_commands_fit.Goals as goal

pub returns : goal.returns
returns c = paired_commands_fit
