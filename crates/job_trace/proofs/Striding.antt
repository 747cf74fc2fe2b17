-- A step that asks, and the lines of steps.
use Rattle.std.proofs.Common.{◌≡◌, ◌<◌, ℕ, ◌+◌, ◌-◌, suc, refl, sym, ap, ap₂, ◌∙◌, subst, arith, add-one, List, ◌∷◌, ◌++◌, Option, Some, None, Bor}
use Rattle.std.specs.Io.KnownBytes.{Appends}
use Rattle.bpf_insn.specs.declared.insn.Insn.{Insn}
use Rattle.machine.specs.Laws.{QuestionsGoOn}
use Rattle.machine.specs.Runs.{call}
use Rattle.machine.specs.State.{State}
use Rattle.machine.specs.declared.calls.Question.{Question}
use Rattle.machine.specs.Step.{Outcome, Ask, Trap, after_answer, insn_at, step, finds_maps, step_with}
use Rattle.stepper.specs.declared.outcomes.StepOutcome.TheVariants as reported
use Rattle.stepper.specs.Machine.{MachineValue, state_of, step_of, IsOutcome, IsSameRun}
use Rattle.job_trace.specs.Changes.{trace_step_line}
use Rattle.job_trace.specs.Runs.{IsStrideBy, On, Strides, line_before, trace_lines_at, lines_of_step, lines_within, stride_of}
use Rattle.job_trace.specs.declared.changes.StepChange.{StepChange}
use Rattle.job_trace.specs.declared.changes.StepChange.TheVariants as changes
use Rattle.stepper.proofs.Walking.{outcome_asks, choice}
use Rattle.job_nodes.proofs.Simulating.{appends_both, appends_nothing}

-- ---- what was printed

-- ---- a step that asks

-- a step that asks, and its answer
pub strides_ask : QuestionsGoOn → (m paused after : MachineValue) (asked : Question) (answer : ℕ) (answers left : List ℕ) (made budget : ℕ) (insn : Insn)
    → IsOutcome (step_of m) (reported.Ask asked) (state_of m) (state_of paused) → answers ≡ answer ∷ left → state_of after ≡ after_answer (state_of paused) answer
    → stride_of made budget m.slot insn answers (step_of m) ≡ On (changes.Answered (call asked answer)) (state_of after) left
strides_ask goes_so m paused after asked answer answers left made budget insn outcome given goes_on =
    let asks = outcome_asks _ asked _ _ outcome in
    let no_trap : Ask asked asks.0 ≡ Trap → ⊥ = λ e. cc in
    let bare : step m.program m.header (state_of m) ≡ Ask asked asks.0 = choice (finds_maps m.sizes (state_of m) (insn_at m.program m.slot)) _ _ asks.1 no_trap in
    let on_is = goes_so m.program m.header (state_of m) asked asks.0 bare in
    let reached : asks.0 answer ≡ state_of after = ap (λ (f : ℕ → State). f answer) on_is ∙ sym (goes_on ∙ ap (λ s. after_answer s answer) asks.2) in
    ap₂ (λ (xs : List ℕ) (o : Outcome). stride_of made budget m.slot insn xs o) given asks.1
    ∙ ap (λ (t : State). On (changes.Answered (call asked answer)) t left) reached

-- ---- lines

-- a step whose line was printed
pub strides_by : (budget : ℕ) (m after : MachineValue) (answers : List ℕ) (old new : Option (List ℕ)) (insn : Insn) (change : StepChange) (left : Option (Bor (List ℕ)))
    → insn_at m.program m.slot ≡ Some insn → IsStrideBy (stride_of (m.steps + 1) budget m.slot insn answers (step_of m)) change left (state_of after)
    → Appends old new (trace_step_line m.slot insn change) → Strides budget m after answers old new left
strides_by budget m after answers old new insn change None at is printed =
    λ (further : State → List ℕ → List ℕ).
    let lines : lines_of_step further budget m answers ≡ trace_step_line m.slot insn change =
    ap (λ (o : Option Insn). trace_lines_at further (m.steps + 1) budget m.slot answers o (step_of m)) at ∙ ap (line_before further m.slot insn) is in
    subst (λ (text : List ℕ). Appends old new text) (sym lines) printed
strides_by budget m after answers old new insn change (Some left) at is printed =
    λ (further : State → List ℕ → List ℕ) (end : Option (List ℕ)) rest.
    let lines : lines_of_step further budget m answers ≡ trace_step_line m.slot insn change ++ further (state_of after) left.now =
    ap (λ (o : Option Insn). trace_lines_at further (m.steps + 1) budget m.slot answers o (step_of m)) at ∙ ap (line_before further m.slot insn) is in
    subst (λ (text : List ℕ). Appends old end text) (sym lines) (appends_both old new end _ _ printed rest)

-- the lines of a step of a run, and of what follows
pub step_lines : (start m : MachineValue) (made budget : ℕ) (answers : List ℕ) (further : State → List ℕ → List ℕ) → IsSameRun start m → m.steps ≡ made
    → lines_of_step further budget m answers ≡ trace_lines_at further (suc made) budget m.slot answers (insn_at start.program m.slot) (step_with start.sizes start.program start.header (state_of m))
step_lines start m made budget answers further same steps =
    rw (same.program, same.header, same.sizes, steps, add-one) refl

-- ---- a run

-- what was printed of a run that began at the first machine, with `made` steps made: whatever comes to the lines of the
-- steps that are left, the whole comes to the lines of all
abbrev pub Prints_so_far : (start m : MachineValue) (budget made : ℕ) (answers left : List ℕ) (old now : Option (List ℕ)) → Type 0
Prints_so_far start m budget made answers left old now =
    (rest : ℕ) → rest + made ≡ budget → (end : Option (List ℕ))
    → Appends now end (lines_within start.program start.header start.sizes budget rest made (state_of m) left)
    → Appends old end (lines_within start.program start.header start.sizes budget budget 0 (state_of start) answers)

-- nothing yet
pub begins_lines : (start : MachineValue) (budget : ℕ) (answers : List ℕ) (old : Option (List ℕ)) → Prints_so_far start start budget 0 answers answers old old
begins_lines start budget answers old rest all end more =
    let whole : rest ≡ budget = omega (arith, all) in
    subst (λ (k : ℕ). Appends old end (lines_within start.program start.header start.sizes budget k 0 (state_of start) answers)) whole more

-- one step more
pub goes_on_lines : (start m after : MachineValue) (budget made : ℕ) (answers left : List ℕ) (rest : Bor (List ℕ)) (old between now : Option (List ℕ))
    → IsSameRun start m → m.steps ≡ made → Prints_so_far start m budget made answers left old between → Strides budget m after left between now (Some rest)
    → Prints_so_far start after budget (made + 1) answers rest.now old now
goes_on_lines start m after budget made answers left rest old between now same steps so_far one k all end more =
    let further = lines_within start.program start.header start.sizes budget k (suc made) in
    let here : Appends now end (further (state_of after) rest.now) =
    subst (λ (n : ℕ). Appends now end (lines_within start.program start.header start.sizes budget k n (state_of after) rest.now)) (add-one made) more in
    let lines = step_lines start m made budget left further same steps in
    so_far (suc k) (omega (arith, all)) end (subst (λ (text : List ℕ). Appends between end text) lines (one further end here))

-- the last step
pub ends_lines : (start m after : MachineValue) (budget made : ℕ) (answers left : List ℕ) (old between now : Option (List ℕ))
    → IsSameRun start m → m.steps ≡ made → made < budget → Prints_so_far start m budget made answers left old between → Strides budget m after left between now None
    → Appends old now (lines_within start.program start.header start.sizes budget budget 0 (state_of start) answers)
ends_lines start m after budget made answers left old between now same steps low so_far one =
    let k = budget - (made + 1) in
    let further = lines_within start.program start.header start.sizes budget k (suc made) in
    let lines = step_lines start m made budget left further same steps in
    so_far (suc k) (omega (arith, low)) now (subst (λ (text : List ℕ). Appends between now text) lines (one further))

-- no step is left
pub all_lines : (start m : MachineValue) (budget made : ℕ) (answers left : List ℕ) (old now : Option (List ℕ))
    → made ≡ budget → Prints_so_far start m budget made answers left old now
    → Appends old now (lines_within start.program start.header start.sizes budget budget 0 (state_of start) answers)
all_lines start m budget made answers left old now all so_far = so_far 0 (omega (arith, all)) now (appends_nothing now)

-- what is no value is none
pub none_of : {A : Type 0} (o : Option A) → ((x : A) → o ≡ Some x → ⊥) → o ≡ None
none_of None not = refl
none_of (Some x) not = absurd (not x refl)
