use Rattle.frames_c.proofs.Taking.{taking}
use Rattle.frames_c.proofs.laws.frames_are_taken.Goals as goal

pub returns : goal.returns
returns c = taking
