use Rattle.std.proofs.Common.{sym, ◌∙◌, rules}
use Rattle.std.specs.Prelude.{FitsSigned}
use Rattle.std.specs.Int.{w32}
use Rattle.std.proofs.lemmas.Int.{to_z-of_z}
use Rattle.basm_lex.specs.Numbers.{WritesNumber}
use Rattle.basm_lex.specs.Operands.{WritesMemoryOperand}
use Rattle.basm.proofs.OperandReadings.{stored_number, two_read}
use Rattle.basm_lex.proofs.Readings.{no_value}
use Rattle.basm.proofs.instructions.store.Goals as goal

pub returns-in_err-place-clause-exact : goal.returns-in_err-place-clause-exact
returns-in_err-place-clause-exact c = λ place value w.
    let read = two_read (λ operand. operand.now) c.args.operands.now _ (λ a. WritesMemoryOperand a place) (λ b. WritesNumber b value) c.memory.result c.immediate.result c.both.result place value
    c.both.ensures.exact (c.memory.ensures.exact place) (c.immediate.ensures.exact value) w in
    absurd (no_value c.in_err-place.field-0.0 _ (sym c.in_err-place.was ∙ read))

pub returns-clause-exact : goal.returns-clause-exact
returns-clause-exact c = λ place value w.
    let x = c.in_ok-place in
    let read = two_read (λ operand. operand.now) c.args.operands.now _ (λ a. WritesMemoryOperand a place) (λ b. WritesNumber b value) c.memory.result c.immediate.result c.both.result place value
    c.both.ensures.exact (c.memory.ensures.exact place) (c.immediate.ensures.exact value) w in
    let small : FitsSigned w32 x.src = search rules in
    rw (to_z-of_z w32 x.src small) (stored_number c.args.size x.place x.src place value (sym x.was ∙ read))
