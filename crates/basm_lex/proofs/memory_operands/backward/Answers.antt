use Rattle.basm_lex.proofs.Readings.{fits_more, refused_minus}
use Rattle.basm_lex.proofs.memory_operands.backward.Goals as goal

pub returns-in_err-offset-clause-exact : goal.returns-in_err-offset-clause-exact
returns-in_err-offset-clause-exact c = λ offset w. absurd (refused_minus c.args.digits.now c.in_err-offset.field-0.0 c.in_err-offset.ensures.exact offset w.0 (fits_more offset w.1))
