-- What a slow machine holds, and what its steps do.
use Rattle.std.specs.Prelude.{◌≡◌, ℕ, List, Option}
use Rattle.bpf.specs.Program.{Program}
use Rattle.machine.specs.declared.values.Value.{Value}
use Rattle.stepper.specs.declared.deeds.InstructionEffect.{InstructionEffect}
use Rattle.stepper.specs.declared.outcomes.StepOutcome as outcomes
use Rattle.stepper.specs.declared.outcomes.StepOutcome.TheVariants as reported
use Rattle.machine.specs.Memory.{Header, header as header_of}
use Rattle.stepper.specs.Bytes.{bytes_in}
use Rattle.stepper.specs.Deeds.{outcome_of, registers_in}
use Rattle.machine.specs.Sizes.{Maps}
use Rattle.machine.specs.State.{State, state}
use Rattle.machine.specs.Step.{Outcome, Next, Ask, Verdict, Trap, step_with}

-- a program with its header and map sizes, the steps so far, and the state in lists
pub record MachineValue : Type 0 where
  pub program : Program
  pub header : Header
  pub sizes : Maps
  pub steps : ℕ
  pub slot : ℕ
  pub registers : List Value
  pub stack : List (Option ℕ)

-- the state of a slot, a list of registers and a list of stack bytes
abbrev pub state_with : ℕ → List Value → List (Option ℕ) → State
state_with slot registers stack = state slot (registers_in registers) (bytes_in stack)

-- the state of the machine
abbrev pub state_of : MachineValue → State
state_of m = state_with m.slot m.registers m.stack

-- the next step of a machine
abbrev pub step_of : MachineValue → Outcome
step_of m = step_with m.sizes m.program m.header (state_of m)

-- What a machine reports of an outcome of the definition, and the state after it. If the outcome is not the next
-- state, the state is as before.
abbrev pub IsOutcome : Outcome → outcomes.StepOutcome → (before after : State) → Type 0
IsOutcome (Next t) outcome before after = (outcome ≡ reported.Next) × (after ≡ t)
IsOutcome (Ask asked on) outcome before after = (outcome ≡ reported.Ask asked) × (after ≡ before)
IsOutcome (Verdict verdict) outcome before after = (outcome ≡ reported.Verdict verdict) × (after ≡ before)
IsOutcome Trap outcome before after = (outcome ≡ reported.Trap) × (after ≡ before)

-- what a machine reports of a deed that was done
abbrev pub IsOutcomeOf : InstructionEffect → outcomes.StepOutcome → (before after : State) → Type 0
IsOutcomeOf deed outcome before after = IsOutcome (outcome_of before deed) outcome before after

-- whether an outcome is a helper's question
abbrev pub IsAsk : Outcome → Type 0
IsAsk (Next t) = ⊥
IsAsk (Ask question on) = Unit {0}
IsAsk (Verdict verdict) = ⊥
IsAsk Trap = ⊥

-- the same program, header and map sizes
pub record IsSameRun (m n : MachineValue) : Type 0 where
  pub program : n.program ≡ m.program
  pub header : n.header ≡ m.header
  pub sizes : n.sizes ≡ m.sizes

-- the run of a program on the parts of a header, with maps of these sizes
pub record IsRunOf (m : MachineValue) (image : Program) (front tail : List ℕ) (maps : Maps) : Type 0 where
  pub program : m.program ≡ image
  pub header : m.header ≡ header_of front tail
  pub sizes : m.sizes ≡ maps
