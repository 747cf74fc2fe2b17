-- Where a program is along a run, by the calls of the run that were answered so far.
use Rattle.std.proofs.Common.{◌≡◌, ◌≤◌, ◌<◌, ◌^◌, ℕ, zero, suc, List, [], ◌∷◌, ◌++◌, Some, sym, ap, subst, ◌∙◌, arith}
use Rattle.bpf.specs.Program.{Program}
use Rattle.brun.specs.declared.turns.Turn.{Turn}
use Rattle.brun.specs.declared.turns.Turn.TheVariants as turns
use Rattle.brun.specs.Runs.{RunsWithin}
use Rattle.machine.specs.declared.calls.Call.{Call}
use Rattle.machine.specs.Laws.{RunsFromTheFront}
use Rattle.machine.specs.Memory.{Header}
use Rattle.machine.specs.Runs.{Ends, GoesOn, call}
use Rattle.machine.specs.State.{State, entry_state}
use Rattle.machine.specs.Step.{Outcome, Next, Ask, Verdict, Trap, step}
use Rattle.sched.specs.Turns.{answers_of_calls, onward, turn_after, turn_within}

-- where a run is whose calls to come are those: at the question of the first, or at its verdict
abbrev pub turn_before : (verdict : ℕ) → List Call → Turn
turn_before verdict [] = turns.Verdict verdict
turn_before verdict (c ∷ cs) = turns.Ask c.question

-- each answer is a word
abbrev pub AreSmall : List Call → Type 0
AreSmall [] = Unit {0}
AreSmall (c ∷ cs) = (c.answer < 2 ^ 64) × AreSmall cs

-- what is known from any state on, after that many steps fewer
abbrev Stands : Program → Header → (n steps verdict : ℕ) → Type 0
Stands program header n steps verdict =
    (t : State) (done rest : List Call) → Ends program header n t (done ++ rest) verdict → turn_within program header steps t (answers_of_calls done) ≡ Some (turn_before verdict rest)

stands_by : (program : Program) (header : Header) (n steps verdict : ℕ) → Stands program header n steps verdict → (o : Outcome) (done rest : List Call)
    → GoesOn (λ t more. Ends program header n t more verdict) (n ≡ 0) (done ++ rest) verdict o
    → onward (turn_within program header steps) (answers_of_calls done) o ≡ Some (turn_before verdict rest)
stands_by program header n steps verdict further (Next t) done rest goes = further t done rest goes
stands_by program header n steps verdict further (Ask question next) [] rest goes = ap (λ (cs : List Call). Some (turn_before verdict cs)) (sym goes.3)
stands_by program header n steps verdict further (Ask question next) (d ∷ ds) rest goes =
    let head : d ≡ call question goes.0 = cc (goes.3) in
    let tail : ds ++ rest ≡ goes.1 = cc (goes.3) in
    further (next d.answer) ds rest
    (subst (λ (a : ℕ). Ends program header n (next a) (ds ++ rest) verdict) (sym (ap (λ (c : Call). c.answer) head))
    (subst (λ (cs : List Call). Ends program header n (next goes.0) cs verdict) (sym tail) goes.4))
stands_by program header n steps verdict further (Verdict w) [] rest goes =
    ap (λ (v : ℕ). Some (turns.Verdict v)) goes.2 ∙ ap (λ (cs : List Call). Some (turn_before verdict cs)) (sym goes.1)
stands_by program header n steps verdict further (Verdict w) (d ∷ ds) rest goes = absurd (cc (goes.1))
stands_by program header n steps verdict further Trap done rest goes = absurd goes

stands : (program : Program) (header : Header) (verdict n steps : ℕ) → n ≤ steps → Stands program header n steps verdict
stands program header verdict zero steps few = λ t done rest ends. absurd ends
stands program header verdict (suc n) zero few = absurd (omega (arith, few))
stands program header verdict (suc n) (suc steps) few =
    λ t done rest ends. stands_by program header n steps verdict (stands program header verdict n steps (omega (arith, few))) (step program header t) done rest ends

small_by : (program : Program) (header : Header) (n verdict : ℕ) → ((t : State) (calls : List Call) → Ends program header n t calls verdict → AreSmall calls) → (o : Outcome) (calls : List Call)
    → GoesOn (λ t more. Ends program header n t more verdict) (n ≡ 0) calls verdict o → AreSmall calls
small_by program header n verdict further (Next t) calls goes = further t calls goes
small_by program header n verdict further (Ask question next) calls goes =
    subst AreSmall (sym goes.3) (goes.2, further (next goes.0) goes.1 goes.4)
small_by program header n verdict further (Verdict w) calls goes = subst AreSmall (sym goes.1) tt
small_by program header n verdict further Trap calls goes = absurd goes

small : (program : Program) (header : Header) (verdict n : ℕ) (t : State) (calls : List Call) → Ends program header n t calls verdict → AreSmall calls
small program header verdict zero t calls ends = absurd ends
small program header verdict (suc n) t calls ends = small_by program header n verdict (small program header verdict n) (step program header t) calls ends

-- along its run a program is where the calls to come say
abbrev pub StandsAlong : Program → Header → (port : ℕ) → List Call → (verdict : ℕ) → Type 0
StandsAlong program header port calls verdict =
    (done rest : List Call) → calls ≡ done ++ rest → turn_after program header port (answers_of_calls done) ≡ Some (turn_before verdict rest)

pub along_run : RunsFromTheFront → (program : Program) (header : Header) (port : ℕ) (calls : List Call) (verdict : ℕ) → RunsWithin program header port calls verdict
    → StandsAlong program header port calls verdict
along_run front program header port calls verdict run = λ done rest is.
    let ends = (front program header port calls run.0 verdict).0 run.2 in
    stands program header verdict run.0 program.budget run.1 (entry_state port) done rest (subst (λ (cs : List Call). Ends program header run.0 (entry_state port) cs verdict) is ends)

pub small_run : RunsFromTheFront → (program : Program) (header : Header) (port : ℕ) (calls : List Call) (verdict : ℕ) → RunsWithin program header port calls verdict → AreSmall calls
small_run front program header port calls verdict run =
    small program header verdict run.0 (entry_state port) calls ((front program header port calls run.0 verdict).0 run.2)
