use Rattle.ports.proofs.Following.{shares_count}
use Rattle.ports.proofs.laws.workers_shares_count.Goals as goal

pub returns : goal.returns
returns c = shares_count
