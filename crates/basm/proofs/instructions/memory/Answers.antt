use Rattle.std.proofs.Common.{ap}
use Rattle.std.specs.Prelude.{Ok}
use Rattle.basm.proofs.OperandReadings.{one_value}
use Rattle.basm_lex.proofs.Readings.{no_value}
use Rattle.basm.proofs.instructions.memory.Goals as goal

pub returns-in_err-read_memory_operand-clause-exact : goal.returns-in_err-read_memory_operand-clause-exact
returns-in_err-read_memory_operand-clause-exact c = λ place w. absurd (no_value c.in_err-read_memory_operand.field-0.0 place (c.in_err-read_memory_operand.ensures.exact place w))

pub returns-clause-exact : goal.returns-clause-exact
returns-clause-exact c = λ place w. ap (λ x. Ok x) (one_value c.in_ok-read_memory_operand.field-0 place (c.in_ok-read_memory_operand.ensures.exact place w))
