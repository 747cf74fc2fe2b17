-- How a run of the slow machine ended, in the definition's terms.
use Rattle.std.specs.Prelude.{◌≡◌, ◌≢◌, ℕ, ◌≤◌, ◌<◌, List, ◌++◌, map}
use Rattle.bpf.specs.Program.{Program}
use Rattle.machine.specs.declared.calls.Call.{Call}
use Rattle.stepper.specs.declared.endings.RunEnd.{RunEnd}
use Rattle.stepper.specs.declared.endings.RunEnd.TheVariants as endings
use Rattle.machine.specs.Memory.{Header}
use Rattle.machine.specs.Sizes.{Maps}
use Rattle.machine.specs.State.{State, entry_state}
use Rattle.machine.specs.Step.{Trap, step_with}
use Rattle.stepper.specs.Machine.{MachineValue, IsAsk, state_of}
use Rattle.machine.specs.Runs.{Path, entry, moves, answered, Runs}

-- the answers of the calls, in order
abbrev pub answers_of : List Call → List ℕ
answers_of calls = map (λ c. c.answer) calls

-- with maps of these sizes no step of the path was a trap: no state before its last one traps
abbrev pub IsClear : (sizes : Maps) (program : Program) (header : Header) (port : ℕ) (calls : List Call) (n : ℕ)
    (last : State) → Path program header port calls n last → Type 0
IsClear sizes program header port _ _ _ entry = Unit {0}
IsClear sizes program header port _ _ _ (moves {s = s} path next) =
    IsClear sizes program header port _ _ s path × (step_with sizes program header s ≢ Trap)
IsClear sizes program header port _ _ _ (answered {s = s} answer path asks small) =
    IsClear sizes program header port _ _ s path × (step_with sizes program header s ≢ Trap)

-- a path of `n` steps, whose helpers had the first of the given answers
pub record Walk (program : Program) (header : Header) (sizes : Maps) (port : ℕ) (answers : List ℕ) (n : ℕ) : Type 0
  where
    pub calls : List Call
    pub left : List ℕ
    pub last : State
    pub path : Path program header port calls n last
    pub clear : IsClear sizes program header port calls n last path
    pub given : answers ≡ answers_of calls ++ left

-- after a walk the program gives the verdict
pub record WalkEnds (program : Program) (header : Header) (sizes : Maps) (port : ℕ) (answers : List ℕ)
    (limit verdict : ℕ) : Type 0 where
  pub calls : List Call
  pub left : List ℕ
  pub n : ℕ
  pub run : Runs program header port calls n verdict
  pub clear : IsClear sizes program header port calls run.before run.last run.path
  pub given : answers ≡ answers_of calls ++ left
  pub within : n ≤ limit

-- after a walk the next step is a trap
pub record WalkTraps (program : Program) (header : Header) (sizes : Maps) (port : ℕ) (answers : List ℕ) (limit : ℕ) :
    Type 0 where
  pub n : ℕ
  pub walk : Walk program header sizes port answers n
  pub trap : step_with sizes program header walk.last ≡ Trap
  pub within : n < limit

-- after a walk that used all answers the next step is a helper's question
pub record WalkAsks (program : Program) (header : Header) (sizes : Maps) (port : ℕ) (answers : List ℕ) (limit : ℕ) :
    Type 0 where
  pub calls : List Call
  pub n : ℕ
  pub last : State
  pub path : Path program header port calls n last
  pub clear : IsClear sizes program header port calls n last path
  pub given : answers ≡ answers_of calls
  pub question : IsAsk (step_with sizes program header last)
  pub within : n < limit

-- how a walk of at most `limit` steps ends: by a verdict, a trap, a question without an answer, or the end of its
-- steps
abbrev pub IsEnding : (program : Program) (header : Header) (sizes : Maps) (port : ℕ) (answers : List ℕ) (limit : ℕ)
    → RunEnd → Type 0
IsEnding program header sizes port answers limit (endings.Verdict verdict) =
    WalkEnds program header sizes port answers limit verdict
IsEnding program header sizes port answers limit endings.Trap = WalkTraps program header sizes port answers limit
IsEnding program header sizes port answers limit endings.Unanswered = WalkAsks program header sizes port answers limit
IsEnding program header sizes port answers limit endings.OutOfSteps = Walk program header sizes port answers limit

-- how a walk from the machine's state ends; the machine is at the entry, and the port may be any
abbrev pub EndsFrom : MachineValue → (answers : List ℕ) → (limit : ℕ) → RunEnd → Type 0
EndsFrom m answers limit ending =
    (port : ℕ) → state_of m ≡ entry_state port → IsEnding m.program m.header m.sizes port answers limit ending
