use Rattle.loading.proofs.Verdicts.{asks_for}
use Rattle.loading.proofs.laws.control_data_are_read.Goals as goal

pub returns : goal.returns
returns c = asks_for
