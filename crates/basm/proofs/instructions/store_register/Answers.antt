use Rattle.std.proofs.Common.{sym, ◌∙◌}
use Rattle.basm_lex.specs.Operands.{WritesMemoryOperand, WritesRegister}
use Rattle.basm.proofs.OperandReadings.{stored_register, two_read}
use Rattle.basm_lex.proofs.Readings.{no_value}
use Rattle.basm.proofs.instructions.store_register.Goals as goal

pub returns-in_err-place-clause-exact : goal.returns-in_err-place-clause-exact
returns-in_err-place-clause-exact c = λ place src w.
    let read = two_read (λ operand. operand.now) c.args.operands.now _ (λ a. WritesMemoryOperand a place) (λ b. WritesRegister b src) c.memory.result c.reg.result c.both.result place src
    c.both.ensures.exact (c.memory.ensures.exact place) (c.reg.ensures.exact src) w in
    absurd (no_value c.in_err-place.field-0.0 _ (sym c.in_err-place.was ∙ read))

pub returns-clause-exact : goal.returns-clause-exact
returns-clause-exact c = λ place src w.
    let x = c.in_ok-place in
    let read = two_read (λ operand. operand.now) c.args.operands.now _ (λ a. WritesMemoryOperand a place) (λ b. WritesRegister b src) c.memory.result c.reg.result c.both.result place src
    c.both.ensures.exact (c.memory.ensures.exact place) (c.reg.ensures.exact src) w in
    stored_register c.args.size x.place x.src place src (sym x.was ∙ read)
