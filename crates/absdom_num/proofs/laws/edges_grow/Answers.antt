use Rattle.absdom_num.proofs.Tightening.{refine_grows}
use Rattle.absdom_num.proofs.laws.edges_grow.Goals as goal

pub returns : goal.returns
returns c = refine_grows
