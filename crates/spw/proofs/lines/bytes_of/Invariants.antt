use Rattle.std.proofs.Common.{length}
use Rattle.std.specs.Str.{IsUtf8}
use Rattle.spw.specs.Line.{words_of}
use Rattle.spw.proofs.WordCuts.{AreLeft}
use Rattle.spw.proofs.lines.bytes_of.Given as goal

abbrev pub invariant-loop-word : goal.invariant-loop-word
invariant-loop-word l = IsUtf8 l.rest × AreLeft (words_of l.text) (words_of l.rest) l.bytes.items

abbrev pub decreases-loop-word : goal.decreases-loop-word
decreases-loop-word l = length (words_of l.rest)
