-- The cost of a run, by a cost of each instruction: a time, or one for each instruction of a class.
use Rattle.std.specs.Prelude.{◌≤◌, ◌<◌, ◌+◌, ℕ, List}
use Rattle.bpf.specs.Program.{Program, insn_at}
use Rattle.bpf_insn.specs.declared.insn.Insn.{Insn}
use Rattle.machine.specs.declared.calls.Call.{Call}
use Rattle.machine.specs.Memory.{Header, IsProgramHeader}
use Rattle.machine.specs.State.{State}
use Rattle.machine.specs.Runs.{Path, entry, moves, answered}
use Rattle.bver_form.specs.Costs.{cost_here, weight_by}

-- ---- the statement

-- what the instructions that were executed on a path cost, each as often as it was executed
abbrev pub cost_of_path : {program : Program} {header : Header} {port : ℕ} {calls : List Call} {n : ℕ} {s : State}
    → (cost : Insn → ℕ) → Path program header port calls n s → ℕ
cost_of_path cost entry = 0
cost_of_path {program} cost (moves {s = s} path step) =
    cost_of_path cost path + cost_here cost (insn_at program s.slot)
cost_of_path {program} cost (answered {s = s} answer path step small) =
    cost_of_path cost path + cost_here cost (insn_at program s.slot)

-- For every header, port and list of calls: a path with the instruction at its end costs at most the program's weight
-- by that cost. So does a run, whose last instruction is at the end of its path.
abbrev pub IsSafeFor : Program → (cost : Insn → ℕ) → Type 0
IsSafeFor program cost =
    (header : Header) (port : ℕ) (calls : List Call) (n : ℕ) (s : State) → IsProgramHeader header → port < 32
    → (path : Path program header port calls n s)
    → cost_of_path cost path + cost_here cost (insn_at program s.slot) ≤ weight_by cost program

-- and so it is for every cost of instructions
pub record IsSafeForCosts (program : Program) : Type 0 where
  pub costs : (cost : Insn → ℕ) → IsSafeFor program cost
