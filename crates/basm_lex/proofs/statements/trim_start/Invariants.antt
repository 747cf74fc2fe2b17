use Rattle.std.proofs.Common.{◌≡◌, length}
use Rattle.std.specs.Str.{IsUtf8}
use Rattle.basm_lex.specs.Lines.{without_leading_spaces}
use Rattle.basm_lex.proofs.statements.trim_start.Given as goal

abbrev pub invariant-loop-after : goal.invariant-loop-after
invariant-loop-after l = IsUtf8 l.rest × (without_leading_spaces l.rest ≡ without_leading_spaces l.text)

abbrev pub decreases-loop-after : goal.decreases-loop-after
decreases-loop-after l = length l.rest
