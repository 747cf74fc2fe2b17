use Rattle.absdom.proofs.GrowState as lemmas
use Rattle.absdom.proofs.laws.after_call_grows.Goals as goal

pub returns : goal.returns
returns c = lemmas.call_grows
