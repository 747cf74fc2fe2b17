use Rattle.rmap.proofs.Cuts.{not_discarded, read_as}
use Rattle.rmap.proofs.laws.discard_is_exact.Goals as goal

pub returns-clause-commands : goal.returns-clause-commands
returns-clause-commands c = not_discarded

pub returns-clause-others : goal.returns-clause-others
returns-clause-others c = read_as
