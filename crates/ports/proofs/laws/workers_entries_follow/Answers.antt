use Rattle.ports.proofs.Entries.{entries_follow}
use Rattle.ports.proofs.laws.workers_entries_follow.Goals as goal

pub returns : goal.returns
returns c = entries_follow
