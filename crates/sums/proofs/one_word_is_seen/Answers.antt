use Rattle.sums.proofs.Seeing.{seen}
use Rattle.sums.proofs.one_word_is_seen.Goals as goal

pub returns : goal.returns
returns c = λ sum before after a b low_sum low_a low_b other. seen before after sum a b low_sum low_a low_b other
