use Rattle.charts.proofs.Tickets.{complete, held_decide, sound}
use Rattle.charts.proofs.laws.decision_paths.Goals as goal

pub returns-clause-exact : goal.returns-clause-exact
returns-clause-exact c = λ old new olds news. (sound old new, complete old new olds news)

pub returns-clause-held : goal.returns-clause-held
returns-clause-held c = held_decide
