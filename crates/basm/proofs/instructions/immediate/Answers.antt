use Rattle.basm_lex.proofs.Readings.{no_value}
use Rattle.basm.proofs.instructions.immediate.Goals as goal

pub returns-in_err-number-clause-exact : goal.returns-in_err-number-clause-exact
returns-in_err-number-clause-exact c = λ value w. absurd (no_value c.in_err-number.field-0.0 value (c.in_err-number.ensures.exact value w))
