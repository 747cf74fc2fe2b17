use Rattle.basm_lex.proofs.Readings.{wide_at_decimal}
use Rattle.basm_lex.proofs.numbers.wide_number.Goals as goal

pub returns-in-None-clause-exact : goal.returns-in-None-clause-exact
returns-in-None-clause-exact c = wide_at_decimal c.args.word.now c.wide_decimal.result c.in-None.ensures.cases c.wide_decimal.ensures.exact
