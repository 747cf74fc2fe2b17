use Rattle.basm_lex.specs.Numbers.{WritesNumber}
use Rattle.basm_lex.specs.Operands.{WritesRegister}
use Rattle.basm.proofs.OperandReadings.{four_read}
use Rattle.basm.proofs.instructions.address_operands.Goals as goal

pub returns-clause-exact : goal.returns-clause-exact
returns-clause-exact c = λ subtype dst first second w.
    four_read (λ operand. operand.now) c.args.operands.now _ (λ a. WritesNumber a subtype) (λ b. WritesRegister b dst) (λ d. WritesNumber d first) (λ e. WritesNumber e second)
    c.immediate.result c.address_place.result c.both.result subtype (dst, (first, second)) c.both.ensures.exact
    (c.immediate.ensures.exact subtype) (c.address_place.ensures.exact dst first second) w
