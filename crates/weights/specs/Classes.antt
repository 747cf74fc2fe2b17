-- The classes of instructions (a choice of this project), and what an instruction costs by what one of its class does.
use Rattle.std.specs.Prelude.{ℕ}
use Rattle.bpf_insn.specs.declared.insn.Insn.{Insn}
use Rattle.bpf_insn.specs.declared.insn.Insn.TheVariants.{Alu, Negate, MoveSigned, ByteSwap, Load, Store, Jump, Goto}
use Rattle.bpf_insn.specs.declared.insn.Insn.TheVariants.{Wide, LoadMap, LoadAddress, Call, Exit}
use Rattle.bpf_parts.specs.declared.operation.AluOp.{AluOp}
use Rattle.bpf_parts.specs.declared.operation.AluOp.TheVariants.{Add, Sub, Mul, Div, SignedDiv, Or, And, Lsh, Rsh}
use Rattle.bpf_parts.specs.declared.operation.AluOp.TheVariants.{Mod, SignedMod, Xor, Mov, Arsh}
use Rattle.weights.specs.declared.costs.Costs.{Costs}

-- ---- the statement

-- what an instruction of each class costs
abbrev pub costs : (division call jump rest : ℕ) → Costs
costs division call jump rest = record { division = division; call = call; jump = jump; rest = rest }

-- what an operation costs: divisions and remainders, signed or not, are a class of their own
abbrev pub cost_of_operation : Costs → AluOp → ℕ
cost_of_operation costs Div = costs.division
cost_of_operation costs SignedDiv = costs.division
cost_of_operation costs Mod = costs.division
cost_of_operation costs SignedMod = costs.division
cost_of_operation costs Add = costs.rest
cost_of_operation costs Sub = costs.rest
cost_of_operation costs Mul = costs.rest
cost_of_operation costs Or = costs.rest
cost_of_operation costs And = costs.rest
cost_of_operation costs Lsh = costs.rest
cost_of_operation costs Rsh = costs.rest
cost_of_operation costs Xor = costs.rest
cost_of_operation costs Mov = costs.rest
cost_of_operation costs Arsh = costs.rest

-- what an instruction costs: calls are a class, and so are the jumps that compare
abbrev pub cost_by : Costs → Insn → ℕ
cost_by costs (Alu op width dst src) = cost_of_operation costs op
cost_by costs (Call callee number) = costs.call
cost_by costs (Jump comparison offset) = costs.jump
cost_by costs (Negate width dst) = costs.rest
cost_by costs (MoveSigned extension dst src) = costs.rest
cost_by costs (ByteSwap swap bits dst) = costs.rest
cost_by costs (Load size dst place) = costs.rest
cost_by costs (Store size place src) = costs.rest
cost_by costs (Goto distance) = costs.rest
cost_by costs (Wide dst value) = costs.rest
cost_by costs (LoadMap dst index) = costs.rest
cost_by costs (LoadAddress dst address) = costs.rest
cost_by costs Exit = costs.rest
