use Rattle.ports.proofs.Whole.{entries_are_all}
use Rattle.ports.proofs.laws.workers_entries_are_all.Goals as goal

pub returns : goal.returns
returns c = entries_are_all
