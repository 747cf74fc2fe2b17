-- The weight of a program: how many instructions a run may take.
use Rattle.std.specs.Prelude.{ℕ, ◌+◌, ◌-◌, ◌*◌, ◌^◌, min, ◌&&◌, nat_le, if◌then◌else◌, List, [], ◌∷◌, Option, Some}
use Rattle.std.specs.Prelude.{None}
use Rattle.bpf_insn.specs.declared.insn.Insn.{Insn}
use Rattle.bpf.specs.declared.loops.Loop.{Loop}
use Rattle.bpf.specs.Program.{Program}

-- ---- the statement

-- how often a loop lets a run pass a slot: its bound, if it holds the slot, else 1
abbrev pub passes_of : Loop → ℕ → ℕ
passes_of l slot = if nat_le l.head slot && nat_le slot l.back then l.bound else 1

-- the product of that over the loops
unfoldable pub times_at : List Loop → ℕ → ℕ
times_at [] slot = 1
times_at (l ∷ ls) slot = passes_of l slot * times_at ls slot

-- the same for an instruction at the slot, and nothing for a second slot
abbrev pub weight_part_of : List Loop → ℕ → Option Insn → ℕ
weight_part_of loops slot None = 0
weight_part_of loops slot (Some insn) = times_at loops slot

-- the sum of that over the slots from one
unfoldable pub weight_from : List Loop → ℕ → List (Option Insn) → ℕ
weight_from loops slot [] = 0
weight_from loops slot (x ∷ xs) = weight_part_of loops slot x + weight_from loops (slot + 1) xs

-- the weight of a program: the sum over its instructions of the product of the bounds of the loops that hold
-- each
abbrev pub weight_of : Program → ℕ
weight_of p = weight_from p.loops 0 p.slots

-- ---- what else contracts and proofs say

-- a number, or 2^64 - 1 if it is above
abbrev pub saturated_weight : ℕ → ℕ
saturated_weight n = min n (2 ^ 64 - 1)
