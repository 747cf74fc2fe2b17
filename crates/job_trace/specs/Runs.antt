-- The lines of a whole run, by the steps of the machine (RFC 9669).
use Rattle.std.specs.Prelude.{◌≡◌, ℕ, zero, suc, ◌+◌, List, [], ◌∷◌, ◌++◌, Option, Some, None}
use Rattle.std.specs.Borrow.{Bor}
use Rattle.std.specs.Io.KnownBytes.{Appends}
use Rattle.bpf.specs.Program.{Program}
use Rattle.bpf_insn.specs.declared.insn.Insn.{Insn}
use Rattle.machine.specs.Memory.{Header}
use Rattle.machine.specs.Runs.{call}
use Rattle.machine.specs.Sizes.{Maps}
use Rattle.machine.specs.State.{State}
use Rattle.machine.specs.Step.{Outcome, Next, Ask, Verdict, Trap, insn_at, step_with}
use Rattle.stepper.specs.Machine.{MachineValue, state_of, step_of}
use Rattle.job_trace.specs.Changes.{step_change_of, trace_step_line}
use Rattle.job_trace.specs.declared.changes.StepChange.{StepChange}
use Rattle.job_trace.specs.declared.changes.StepChange.TheVariants as changes

-- what a step comes to in a trace: it changed something, and the run goes on from a state with the answers that are
-- left. Or it was the last. Or there is no line of it, since it is a trap or a question without an answer
pub data Stride : Type 0 where
  On : StepChange → State → List ℕ → Stride
  Last : StepChange → Stride
  Stuck : Stride

-- what the outcome of an instruction at a slot comes to, as step of that number, with the answers to the questions to come
abbrev pub stride_of : (made budget slot : ℕ) → Insn → (answers : List ℕ) → Outcome → Stride
stride_of made budget slot insn answers (Next t) = On (step_change_of insn slot t) t answers
stride_of made budget slot insn [] (Ask question on) = Stuck
stride_of made budget slot insn (answer ∷ answers) (Ask question on) =
    On (changes.Answered (call question answer)) (on answer) answers
stride_of made budget slot insn answers (Verdict verdict) = Last (changes.Ended verdict made budget)
stride_of made budget slot insn answers Trap = Stuck

-- the line of a step, and what follows it
abbrev pub line_before : (further : State → List ℕ → List ℕ) → (slot : ℕ) → Insn → Stride → List ℕ
line_before further slot insn (On change t answers) = trace_step_line slot insn change ++ further t answers
line_before further slot insn (Last change) = trace_step_line slot insn change
line_before further slot insn Stuck = []

-- the same, if an instruction begins at the slot
abbrev pub trace_lines_at : (further : State → List ℕ → List ℕ) → (made budget slot : ℕ) → (answers : List ℕ) → Option Insn
    → Outcome → List ℕ
trace_lines_at further made budget slot answers None outcome = []
trace_lines_at further made budget slot answers (Some insn) outcome =
    line_before further slot insn (stride_of made budget slot insn answers outcome)

-- the lines of at most `left` steps from a state with those answers, after `made` that were made, with maps of those
-- sizes. Each step has its line, up to the verdict
abbrev pub lines_within : Program → Header → Maps → (budget left made : ℕ) → State → (answers : List ℕ) → List ℕ
lines_within program header sizes budget zero made s answers = []
lines_within program header sizes budget (suc left) made s answers =
    trace_lines_at (lines_within program header sizes budget left (suc made)) (suc made) budget s.slot answers
    (insn_at program s.slot) (step_with sizes program header s)

-- ---- what else contracts say

-- what a step changed, and the answers that it left, come to that stride
abbrev pub IsStrideBy : Stride → StepChange → Option (Bor (List ℕ)) → (after : State) → Type 0
IsStrideBy stride change None after = stride ≡ Last change
IsStrideBy stride change (Some left) after = stride ≡ On change after left.now

-- the same, if a step may have no line
abbrev pub IsStride : Stride → Option (StepChange × Option (Bor (List ℕ))) → (after : State) → Type 0
IsStride stride None after = stride ≡ Stuck
IsStride stride (Some received) after = IsStrideBy stride received.0 received.1 after

-- the lines of the next step of a machine, and what follows it
abbrev pub lines_of_step : (further : State → List ℕ → List ℕ) → (budget : ℕ) → MachineValue → (answers : List ℕ)
    → List ℕ
lines_of_step further budget m answers =
    trace_lines_at further (m.steps + 1) budget m.slot answers (insn_at m.program m.slot) (step_of m)

-- the line of a step was printed. What follows it is still to come if the result says that answers are left, and else
-- there is no more
abbrev pub Strides : (budget : ℕ) → (m after : MachineValue) → (answers : List ℕ) → (old new : Option (List ℕ))
    → Option (Bor (List ℕ)) → Type 0
Strides budget m after answers old new None =
    (further : State → List ℕ → List ℕ) → Appends old new (lines_of_step further budget m answers)
Strides budget m after answers old new (Some left) =
    (further : State → List ℕ → List ℕ) (end : Option (List ℕ)) → Appends new end (further (state_of after) left.now)
    → Appends old end (lines_of_step further budget m answers)
