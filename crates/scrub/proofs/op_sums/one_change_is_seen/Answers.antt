use Rattle.scrub.proofs.Seeing.{one_change}
use Rattle.scrub.proofs.op_sums.one_change_is_seen.Goals as goal

pub returns : goal.returns
returns c = λ before after a b small_a small_b differ. one_change c.one_word_is_seen.ensures before after a b small_a small_b differ
