use Rattle.ports.proofs.Following.{programs_were_published}
use Rattle.ports.proofs.laws.workers_programs_were_published.Goals as goal

pub returns : goal.returns
returns c = programs_were_published
