use Rattle.std.proofs.Common.{pos}
use Rattle.basm_lex.proofs.Readings.{no_value}
use Rattle.basm.proofs.directives.read_short.Goals as goal

pub returns-in_err-value-clause-exact : goal.returns-in_err-value-clause-exact
returns-in_err-value-clause-exact c = λ value small w. absurd (no_value c.in_err-value.field-0.0 (pos value) (c.in_err-value.ensures.exact (pos value) w))
