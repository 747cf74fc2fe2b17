use Rattle.machine.proofs.Results.{results_small}
use Rattle.machine.proofs.laws.results_fit.Goals as goal

pub returns : goal.returns
returns c = results_small
