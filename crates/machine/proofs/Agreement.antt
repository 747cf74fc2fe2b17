-- Two paths with the same calls are the same up to the end of the shorter one.
use Rattle.std.proofs.Common.{◌≡◌, ℕ, zero, suc, ◌+◌, ◌<◌, ◌≤◌, refl, sym, ◌∙◌, ap, arith, ⊎_elim, List, [], ◌∷◌, ◌++◌, append_assoc, Option, Some, None}
use Rattle.std.proofs.lemmas.List.{append-nil}
use Rattle.std.proofs.lemmas.Bool.{cases_lt, cases_order}
use Rattle.bpf.specs.Program.{Program}
use Rattle.machine.specs.declared.calls.Call.{Call}
use Rattle.machine.specs.Memory.{Header}
use Rattle.machine.specs.State.{State, entry_state}
use Rattle.machine.specs.Step.{Question, Outcome, Next, Ask, Verdict, Trap, step}
use Rattle.machine.specs.Laws.{IsHalt, HaltsAgree}
use Rattle.machine.specs.Runs.{Path, entry, moves, answered, Runs, call}

-- the state after an outcome, with the calls that are left
abbrev goes : Outcome → List Call → Option (State × List Call)
goes (Next t) calls = Some (t, calls)
goes (Ask question on) [] = None
goes (Ask question on) (c ∷ calls) = Some (on c.answer, calls)
goes (Verdict verdict) calls = None
goes Trap calls = None

abbrev goes_from : Program → Header → Option (State × List Call) → Option (State × List Call)
goes_from program header None = None
goes_from program header (Some (s, calls)) = goes (step program header s) calls

abbrev after : Program → Header → (port : ℕ) → List Call → ℕ → Option (State × List Call)
after program header port calls zero = Some (entry_state port, calls)
after program header port calls (suc n) = goes_from program header (after program header port calls n)

goes_moves : (o : Outcome) (t : State) (calls : List Call) → o ≡ Next t → goes o calls ≡ Some (t, calls)
goes_moves o t calls e = rw e refl

goes_asks : (o : Outcome) (question : Question) (on : ℕ → State) (c : Call) (calls : List Call) → o ≡ Ask question on → goes o (c ∷ calls) ≡ Some (on c.answer, calls)
goes_asks o question on c calls e = rw e refl

from_some : (program : Program) (header : Header) (x : Option (State × List Call)) (s : State) (calls : List Call) → x ≡ Some (s, calls) → goes_from program header x ≡ goes (step program header s) calls
from_some program header x s calls e = rw e refl

from_none : (program : Program) (header : Header) (x : Option (State × List Call)) → x ≡ None → goes_from program header x ≡ None
from_none program header x e = rw e refl

follows : (program : Program) (header : Header) (port : ℕ) (calls : List Call) (n : ℕ) (s : State) → Path program header port calls n s → (rest : List Call) → after program header port (calls ++ rest) n ≡ Some (s, rest)
follows program header port calls n s entry rest = refl
follows program header port calls (suc n) t (moves {s = s} path e) rest =
    from_some program header _ s rest (follows program header port calls n s path rest) ∙ goes_moves _ t rest e
follows program header port calls (suc n) t (answered {calls = before} {s = s} {question = question} {on = on} answer path e small) rest =
    let given = call question answer in
    let together = append_assoc before (given ∷ []) rest in
    let earlier = follows program header port before n s path (given ∷ rest) in
    ap (λ (xs : List Call). after program header port xs (suc n)) together ∙ (from_some program header _ s (given ∷ rest) earlier ∙ goes_asks _ question on given rest e)

-- after its end a path goes no further
ended : (program : Program) (header : Header) (port : ℕ) (calls : List Call) (n m : ℕ) → n ≤ m → after program header port calls n ≡ None → after program header port calls m ≡ None
ended program header port calls n zero below e =
    let same : n ≡ 0 = omega arith in
    rw same at e
ended program header port calls n (suc m) below e =
    ⊎_elim
    (λ (k : m < n). let same : n ≡ suc m = omega arith in rw same at e)
    (λ (k : n ≤ m). from_none program header _ (ended program header port calls n m k e))
    (cases_lt m n)

-- the last state of a run, and that nothing comes after it
last_of : (program : Program) (header : Header) (port : ℕ) (calls : List Call) (n : ℕ) (s : State) → Path program header port calls n s → after program header port calls n ≡ Some (s, [])
last_of program header port calls n s path = rw append-nil at (follows program header port calls n s path [])

-- ---- what halts goes no further

halts : (o : Outcome) → IsHalt o → goes o [] ≡ None
halts (Next t) h = absurd h
halts (Ask question on) h = refl
halts (Verdict verdict) h = refl
halts Trap h = absurd h

halted : (program : Program) (header : Header) (port : ℕ) (calls : List Call) (n : ℕ) (s : State) → Path program header port calls n s → IsHalt (step program header s) → after program header port calls (suc n) ≡ None
halted program header port calls n s path h =
    from_some program header _ s [] (last_of program header port calls n s path) ∙ halts _ h

not_later : (program : Program) (header : Header) (port : ℕ) (calls : List Call) (n m : ℕ) (s t : State) → Path program header port calls n s → IsHalt (step program header s) → Path program header port calls m t → n < m → ⊥
not_later program header port calls n m s t path h longer below =
    let nothing = ended program header port calls (suc n) m below (halted program header port calls n s path h) in
    let something = last_of program header port calls m t longer in
    let clash : ◌≡◌ {A = Option (State × List Call)} None (Some (t, [])) = sym nothing ∙ something in
    cc

abbrev state_or : State → Option (State × List Call) → State
state_or s None = s
state_or s (Some (t, calls)) = t

same_state : (s t : State) → ◌≡◌ {A = Option (State × List Call)} (Some (s, [])) (Some (t, [])) → s ≡ t
same_state s t e = ap (state_or s) e

pub halts_are_one : HaltsAgree
halts_are_one program header port calls n m s t path h other k =
    let same : n ≡ m = ⊎_elim
    (λ (same : n ≡ m). same)
    (⊎_elim
    (λ (below : n < m). absurd (not_later program header port calls n m s t path h other below))
    (λ (above : m < n). absurd (not_later program header port calls m n t s other k path above)))
    (cases_order n m)
    in
    let one = last_of program header port calls n s path in
    let two = last_of program header port calls m t other in
    let here = rw same at one in
    (same, same_state s t (sym here ∙ two))

-- ---- a verdict is a halt

is_halt : (o : Outcome) (verdict : ℕ) → o ≡ Verdict verdict → IsHalt o
is_halt o verdict e = rw e tt

same_verdict : (v w : ℕ) → Verdict v ≡ Verdict w → v ≡ w
same_verdict v w e = cc

pub runs_are_one : (program : Program) (header : Header) (port : ℕ) (calls : List Call) (n m v w : ℕ) → Runs program header port calls n v → Runs program header port calls m w → (n ≡ m) × (v ≡ w)
runs_are_one program header port calls n m v w r q =
    let one = halts_are_one program header port calls r.before q.before r.last q.last r.path (is_halt _ v r.exit) q.path (is_halt _ w q.exit) in
    let verdict_is = sym r.exit ∙ ap (λ (x : State). step program header x) one.1 ∙ q.exit in
    (r.steps ∙ ap (λ k. k + 1) one.0 ∙ sym q.steps, same_verdict v w verdict_is)
