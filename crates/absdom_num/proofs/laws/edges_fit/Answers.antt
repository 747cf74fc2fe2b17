use Rattle.absdom_num.proofs.Refining.{refine_fits}
use Rattle.absdom_num.proofs.laws.edges_fit.Goals as goal

pub returns : goal.returns
returns c = refine_fits
