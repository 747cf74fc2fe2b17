use Rattle.rmap.proofs.Fields.{laid_out}
use Rattle.rmap.proofs.laws.commands_are_laid_out.Goals as goal

pub returns : goal.returns
returns c = laid_out
