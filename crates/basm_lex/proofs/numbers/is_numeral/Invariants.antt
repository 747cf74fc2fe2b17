use Rattle.std.proofs.Common.{length}
use Rattle.std.specs.Str.Parse.{AllDigits}
use Rattle.basm_lex.proofs.numbers.is_numeral.Given as goal

abbrev pub invariant-loop-rest : goal.invariant-loop-rest
invariant-loop-rest l = (AllDigits l.radix l.text → AllDigits l.radix l.rest) × (AllDigits l.radix l.rest → AllDigits l.radix l.text)

abbrev pub decreases-loop-rest : goal.decreases-loop-rest
decreases-loop-rest l = length l.rest
