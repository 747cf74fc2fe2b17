use Rattle.std.proofs.Common.{None, lit<}
use Rattle.std.proofs.lemmas.Str.Pattern.{strip_prefix_char}
use Rattle.basm_lex.proofs.Decimals.{without_minus}
use Rattle.basm_lex.proofs.numbers.is_decimal.Goals as goal

pub returns-in-None : goal.returns-in-None
returns-in-None c =
    let word = c.args.word.now in
    let plain = without_minus word (strip_prefix_char 45 word None c.in-None.ensures.cases (lit< tt)) in
    rw plain c.is_numeral-in-None.ensures
