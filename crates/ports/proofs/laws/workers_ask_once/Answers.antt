use Rattle.ports.proofs.Following.{ask_once}
use Rattle.ports.proofs.laws.workers_ask_once.Goals as goal

pub returns : goal.returns
returns c = ask_once
