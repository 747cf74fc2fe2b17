use Rattle.absdom.proofs.Leaving as lemmas
use Rattle.absdom.proofs.laws.refine_shrinks.Goals as goal

pub returns : goal.returns
returns c = lemmas.refine_shrinks c.edges_shrink.ensures
