use Rattle.rmap.proofs.Cuts.{only_command}
use Rattle.rmap.proofs.laws.command_is_unique.Goals as goal

pub returns : goal.returns
returns c = only_command
