use Rattle.std.proofs.Common.{◌≡◌, length}
use Rattle.std.specs.Str.{IsUtf8}
use Rattle.spw.specs.Line.{words_of}
use Rattle.spw.proofs.words.first_word.Given as goal

abbrev pub invariant-loop-word : goal.invariant-loop-word
invariant-loop-word l = IsUtf8 l.rest × (words_of l.text ≡ words_of l.rest)

abbrev pub decreases-loop-word : goal.decreases-loop-word
decreases-loop-word l = length l.rest
