use Rattle.annals.proofs.Publishings.{publishes_begin}
use Rattle.annals.proofs.laws.publishes_grow.Goals as goal

pub returns : goal.returns
returns c = publishes_begin
