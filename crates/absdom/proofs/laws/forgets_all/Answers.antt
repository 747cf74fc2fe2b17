use Rattle.absdom.proofs.Leaving as lemmas
use Rattle.absdom.proofs.laws.forgets_all.Goals as goal

pub returns : goal.returns
returns c = lemmas.forgets_all
