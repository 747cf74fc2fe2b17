use Rattle.std.proofs.Common.{◌≡◌, arith}
use Rattle.std.proofs.lemmas.Grind.{common_steps}
use Rattle.basm_lex.proofs.RegisterTexts.{one_register}
use Rattle.basm_lex.proofs.registers.register.Goals as goal

pub returns-in-Some-clause-exact : goal.returns-in-Some-clause-exact
returns-in-Some-clause-exact c = λ n w.
    let same : c.in-Some.number ≡ n = one_register c.args.word.now c.in-Some.number n c.in-Some.ensures w in grind (arith, common_steps, same, c.new.ensures, w.0)
