use Rattle.ports.proofs.Loading.{publishes_are_all}
use Rattle.ports.proofs.laws.workers_publishes_are_all.Goals as goal

pub returns : goal.returns
returns c = publishes_are_all c.loads_are_apart.ensures.entries c.loads_are_apart.ensures.listed
