use Rattle.frames_c.proofs.Seeing.{seen}
use Rattle.frames_c.proofs.laws.changes_are_seen.Goals as goal

pub returns : goal.returns
returns c = seen c.one_word_is_seen.ensures
