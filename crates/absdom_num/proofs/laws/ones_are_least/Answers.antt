use Rattle.absdom_num.proofs.Ones.{is_least_ones}
use Rattle.absdom_num.proofs.laws.ones_are_least.Goals as goal

pub returns : goal.returns
returns c = is_least_ones
