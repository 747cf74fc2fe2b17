use Rattle.absdom_stack.proofs.MarkBits.{length-marks, no_words, unmarked}
use Rattle.absdom_stack.proofs.marks.Marks.none.Goals as goal

pub returns-clause-none : goal.returns-clause-none
returns-clause-none c = unmarked

pub returns-clause-length : goal.returns-clause-length
returns-clause-length c = length-marks no_words
