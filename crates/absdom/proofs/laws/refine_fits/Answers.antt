use Rattle.absdom.proofs.FitsEdges as edges
use Rattle.absdom.proofs.laws.refine_fits.Goals as goal

pub returns : goal.returns
returns c = edges.refine_fits c.edges_fit.ensures
