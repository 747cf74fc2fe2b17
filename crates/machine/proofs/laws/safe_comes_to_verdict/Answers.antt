use Rattle.machine.proofs.Deciding.{comes_to_verdict}
use Rattle.machine.proofs.laws.safe_comes_to_verdict.Goals as goal

pub returns : goal.returns
returns c = comes_to_verdict
