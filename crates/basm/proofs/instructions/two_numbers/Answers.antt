use Rattle.basm_lex.specs.Numbers.{WritesNumber}
use Rattle.basm.proofs.OperandReadings.{two_read}
use Rattle.basm.proofs.instructions.two_numbers.Goals as goal

pub returns-clause-exact : goal.returns-clause-exact
returns-clause-exact c = λ first second w.
    two_read (λ operand. operand.now) c.args.operands.now _ (λ a. WritesNumber a first) (λ b. WritesNumber b second) c.immediate.result c.immediate-2.result c.both.result first second
    c.both.ensures.exact (c.immediate.ensures.exact first) (c.immediate-2.ensures.exact second) w
