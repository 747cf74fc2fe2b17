use Rattle.absdom.proofs.GrowEdges as edges
use Rattle.absdom.proofs.laws.refine_grows.Goals as goal

pub returns : goal.returns
returns c = edges.refine_grows c.edges_grow.ensures
