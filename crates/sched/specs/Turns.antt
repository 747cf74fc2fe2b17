-- Where a program is after some answers, by the steps of the machine (RFC 9669).
use Rattle.std.specs.Prelude.{◌≡◌, ◌↔◌, ◌<◌, ◌^◌, ℕ, zero, suc, List, [], ◌∷◌, map, All, Option, Some, None}
use Rattle.bpf.specs.Program.{Program}
use Rattle.brun.specs.declared.turns.Turn.{Turn}
use Rattle.brun.specs.declared.turns.Turn.TheVariants as turns
use Rattle.brun.specs.Runs.{RunsWithin}
use Rattle.machine.specs.declared.calls.Call.{Call}
use Rattle.machine.specs.Memory.{Header, IsProgramHeader}
use Rattle.machine.specs.Runs.{Path, IsSafe}
use Rattle.machine.specs.Sizes.{Maps}
use Rattle.machine.specs.State.{State, entry_state}
use Rattle.machine.specs.declared.calls.Question.{Question}
use Rattle.machine.specs.Step.{Outcome, Next, Ask, Verdict, Trap, step}

-- What follows a step, with those answers to the questions to come. A question takes the first of them, or is where the
-- run is. At a verdict no answer is left over.
abbrev pub onward : (further : State → List ℕ → Option Turn) → (answers : List ℕ) → Outcome → Option Turn
onward further answers (Next s) = further s answers
onward further [] (Ask question on) = Some (turns.Ask question)
onward further (answer ∷ answers) (Ask question on) = further (on answer) answers
onward further [] (Verdict verdict) = Some (turns.Verdict verdict)
onward further (answer ∷ answers) (Verdict verdict) = None
onward further answers Trap = None

-- Where at most that many steps lead from a state with those answers: to the first question without one, or the verdict
-- after the last.
abbrev pub turn_within : Program → Header → (steps : ℕ) → State → (answers : List ℕ) → Option Turn
turn_within program header zero s answers = None
turn_within program header (suc steps) s answers =
    onward (turn_within program header steps) answers (step program header s)

-- where a program is after those answers, within its budget
abbrev pub turn_after : Program → Header → (port : ℕ) → (answers : List ℕ) → Option Turn
turn_after program header port answers =
    turn_within program header program.budget (entry_state port) answers

-- the answers of some calls, in order
abbrev pub answers_of_calls : List Call → List ℕ
answers_of_calls calls = map (λ (c : Call). c.answer) calls

-- each answer is a word
abbrev pub AreWords : List ℕ → Type 0
AreWords answers = All (λ answer. answer < 2 ^ 64) answers

-- a path with those answers leads to a state whose step asks the question
pub record HasAsked (program : Program) (header : Header) (port : ℕ) (answers : List ℕ) (question : Question) : Type 0
  where
    pub calls : List Call
    pub answered : answers_of_calls calls ≡ answers
    pub steps : ℕ
    pub last : State
    pub on : ℕ → State
    pub path : Path program header port calls steps last
    pub asks : step program header last ≡ Ask question on

-- a run with those answers ends with the verdict, within the budget
pub record HasEnded (program : Program) (header : Header) (port : ℕ) (answers : List ℕ) (verdict : ℕ) : Type 0 where
  pub calls : List Call
  pub answered : answers_of_calls calls ≡ answers
  pub run : RunsWithin program header port calls verdict

-- The program is at a question exactly if a path with those answers asks it. It is at a verdict exactly if a run with
-- them ends so.
pub record StandsByPaths (program : Program) (header : Header) (port : ℕ) (answers : List ℕ) : Type 0 where
  pub asks : (question : Question) → (turn_after program header port answers ≡ Some (turns.Ask question))
      ↔ HasAsked program header port answers question
  pub ends : (verdict : ℕ) → (turn_after program header port answers ≡ Some (turns.Verdict verdict))
      ↔ HasEnded program header port answers verdict

-- a safe program is where its paths lead
abbrev pub TurnsArePaths : Type 0
TurnsArePaths =
    (program : Program) (sizes : Maps) (header : Header) (port : ℕ) (answers : List ℕ)
    → IsSafe program sizes → IsProgramHeader header → port < 32 → AreWords answers
    → StandsByPaths program header port answers
