use Rattle.annals.proofs.Dues.{done_prefix}
use Rattle.annals.proofs.laws.acts_grow.Goals as goal

pub returns : goal.returns
returns c = done_prefix
