use Rattle.absdom_num.proofs.Tightening.{refine_shrinks}
use Rattle.absdom_num.proofs.laws.edges_shrink.Goals as goal

pub returns : goal.returns
returns c = refine_shrinks
