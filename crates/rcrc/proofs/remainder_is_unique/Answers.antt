use Rattle.rcrc.proofs.RemainderLemmas.{remainder_unique}
use Rattle.rcrc.proofs.remainder_is_unique.Goals as goal

pub returns : goal.returns
returns c = remainder_unique
