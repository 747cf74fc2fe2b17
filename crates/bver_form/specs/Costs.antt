-- The cost of a program's instructions, by a cost of each: a time, or one for each instruction of a class.
use Rattle.std.specs.Prelude.{ℕ, ◌+◌, ◌*◌, List, [], ◌∷◌, Option, Some, None}
use Rattle.bpf.specs.declared.loops.Loop.{Loop}
use Rattle.bpf.specs.Program.{Program}
use Rattle.bpf.specs.Weight.{times_at}
use Rattle.bpf_insn.specs.declared.insn.Insn.{Insn}

-- ---- the statement

-- what the instruction at a slot costs each time, and nothing for a second slot
abbrev pub cost_here : (cost : Insn → ℕ) → Option Insn → ℕ
cost_here cost None = 0
cost_here cost (Some insn) = cost insn

-- the sum of these costs over the slots from one, each as often as the loops let a run pass it
unfoldable pub weight_by_from : (cost : Insn → ℕ) → List Loop → ℕ → List (Option Insn) → ℕ
weight_by_from cost loops slot [] = 0
weight_by_from cost loops slot (x ∷ xs) =
    times_at loops slot * cost_here cost x + weight_by_from cost loops (slot + 1) xs

-- The weight of a program by a cost of each instruction. It is a sum over its instructions: each adds the product of
-- the bounds of the loops that hold it, times its cost.
abbrev pub weight_by : (cost : Insn → ℕ) → Program → ℕ
weight_by cost p = weight_by_from cost p.loops 0 p.slots
