-- What holds of the form of a program. It says what its first fault means, and what the instructions of a run through
-- its loops may cost, by whatever cost of each.
use Rattle.std.specs.Prelude.{◌≡◌, ◌≤◌, ◌<◌, ℕ, ◌+◌, IsSome, All, length}
use Rattle.bpf.specs.Program.{Program, IsProgram, insn_at}
use Rattle.bpf.specs.Weight.{weight_of}
use Rattle.bpf_insn.specs.declared.insn.Insn.{Insn}
use Rattle.bver_form.specs.declared.refusal.Refused.{Refused}
use Rattle.bver_form.specs.Codes.{IsFormCode}
use Rattle.bver_form.specs.Costs.{cost_here, weight_by}
use Rattle.bver_form.specs.Form.{IsFormed, IsFormFault}
use Rattle.bver_form.specs.Loops.{AreCounted, ComesIn, IsEdge, weight_left}

-- a program that has a first fault does not have its form
abbrev pub FaultRefutesForm : Type 0
FaultRefutesForm = (p : Program) (refused : Refused) → IsFormFault p refused → IsFormed p → ⊥

-- and it has no other first fault
abbrev pub FirstFaultIsOne : Type 0
FirstFaultIsOne = (p : Program) (one other : Refused) → IsFormFault p one → IsFormFault p other → one ≡ other

-- it is a refusal of the form, at a slot of the program
abbrev pub FaultIsKnown : Type 0
FaultIsKnown =
    (p : Program) (refused : Refused) → IsProgram p → IsFormFault p refused → IsFormCode refused.code
    × (refused.slot < length p.slots)

-- at slot 0 no more is left than the weight, if a loop that has its head there begins within its bound
abbrev pub BeginsWithinWeight : Type 0
BeginsWithinWeight =
    (cost : Insn → ℕ) (p : Program) (values : ℕ → ℕ) → IsProgram p → IsFormed p
    → All (λ l. l.head ≡ 0 → values 0 ≤ l.bound) p.loops → weight_left cost p values 0 ≤ weight_by cost p

-- each step takes at least the cost of its instruction from what is left
abbrev pub EachStepTakesItsCost : Type 0
EachStepTakesItsCost =
    (cost : Insn → ℕ) (p : Program) (slot next : ℕ) (values after : ℕ → ℕ) → IsProgram p → IsFormed p
    → IsEdge p slot next → IsSome (insn_at p next) → AreCounted p slot next values after
    → weight_left cost p after next + cost_here cost (insn_at p slot) ≤ weight_left cost p values slot

-- at a run's slot, the cost of the instruction is left, whatever the counters' values
abbrev pub ItsCostIsLeft : Type 0
ItsCostIsLeft =
    (cost : Insn → ℕ) (p : Program) (slot : ℕ) (values : ℕ → ℕ) → IsProgram p → IsFormed p
    → cost_here cost (insn_at p slot) ≤ weight_left cost p values slot

-- if each instruction costs one, that is the weight
abbrev pub WeightIsOfOnes : Type 0
WeightIsOfOnes = (p : Program) → weight_by (λ _. 1) p ≡ weight_of p

-- A run comes into a loop only at its head, and to its back from the slot before. An instruction of two slots cannot
-- step over the head, since the back jump leads there, and so an instruction begins there.
abbrev pub LoopsAreEntered : Type 0
LoopsAreEntered =
    (p : Program) (slot next : ℕ) → IsProgram p → IsFormed p → IsEdge p slot next → IsSome (insn_at p next)
    → All (λ l. ComesIn l slot next) p.loops
