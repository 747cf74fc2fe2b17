use Rattle.std.proofs.Common.{◌≡◌, length}
use Rattle.std.specs.Str.{IsUtf8}
use Rattle.basm_lex.specs.Lines.{without_trailing_spaces}
use Rattle.basm_lex.proofs.statements.trim_end.Given as goal

abbrev pub invariant-loop-before : goal.invariant-loop-before
invariant-loop-before l = IsUtf8 l.rest × (without_trailing_spaces l.rest ≡ without_trailing_spaces l.text)

abbrev pub decreases-loop-before : goal.decreases-loop-before
decreases-loop-before l = length l.rest
