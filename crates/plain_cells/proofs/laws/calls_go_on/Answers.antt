use Rattle.plain_cells.proofs.Calls as calls
use Rattle.plain_cells.proofs.laws.calls_go_on.Goals as goal

pub returns : goal.returns
returns c = calls.calls_go_on
