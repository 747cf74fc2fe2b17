use Rattle.std.proofs.Common.{◌≡◌, sum, take}
use Rattle.cells.proofs.words.first_word.Given as goal

abbrev pub invariant-loop-before : goal.invariant-loop-before
invariant-loop-before l = l.word ≡ sum (take l.before l.sizes.cells)
