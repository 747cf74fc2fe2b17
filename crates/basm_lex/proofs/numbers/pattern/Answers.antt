use Rattle.std.proofs.Common.{arith}
use Rattle.basm_lex.proofs.Decimals.{plain}
use Rattle.basm_lex.proofs.Readings.{hexadecimal_low}
use Rattle.basm_lex.proofs.numbers.pattern.Goals as goal

pub returns-in-Err : goal.returns-in-Err
returns-in-Err c = λ hex.
    let digits = c.args.digits.now in
    c.in-Err.ensures.value (rw (plain 16 (omega arith) digits hex.0) (hex.0, hexadecimal_low 8 digits hex))
