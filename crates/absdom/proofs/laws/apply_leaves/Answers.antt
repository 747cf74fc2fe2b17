use Rattle.absdom.proofs.Leaving as lemmas
use Rattle.absdom.proofs.laws.apply_leaves.Goals as goal

pub returns-clause-apply : goal.returns-clause-apply
returns-clause-apply c = lemmas.apply_leaves

pub returns-clause-call : goal.returns-clause-call
returns-clause-call c = lemmas.call_leaves
