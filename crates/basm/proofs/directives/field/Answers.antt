use Rattle.basm_lex.proofs.Readings.{no_value}
use Rattle.basm.proofs.directives.field.Goals as goal

pub returns-in-Err-Form-clause-exact : goal.returns-in-Err-Form-clause-exact
returns-in-Err-Form-clause-exact c = λ value w. absurd (no_value c.in-Err-Form.field-0 value (c.in-Err-Form.ensures.exact value w))

pub returns-in-Err-Range-clause-exact : goal.returns-in-Err-Range-clause-exact
returns-in-Err-Range-clause-exact c = λ value w. absurd (no_value c.in-Err-Range.field-0 value (c.in-Err-Range.ensures.exact value w))
