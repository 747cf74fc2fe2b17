-- Where a program is, by its paths.
use Rattle.std.proofs.Common.{◌≡◌, ◌<◌, ◌^◌, ℕ, zero, suc, ◌+◌, ◌-◌, List, [], ◌∷◌, ◌++◌, map, Option, Some, None, refl, sym, subst, arith, ◌∙◌, append_assoc}
use Rattle.std.proofs.lemmas.List.{append-nil, map-append}
use Rattle.std.proofs.lemmas.List.Elements.{All-nil, All-head, All-tail, All-push}
use Rattle.bpf.specs.Program.{Program}
use Rattle.brun.specs.declared.turns.Turn.{Turn}
use Rattle.brun.specs.declared.turns.Turn.TheVariants as turns
use Rattle.machine.specs.declared.calls.Call.{Call}
use Rattle.machine.specs.Memory.{Header, IsProgramHeader}
use Rattle.machine.specs.Runs.{Path, entry, moves, answered, IsSafe, call}
use Rattle.machine.specs.Sizes.{Maps}
use Rattle.machine.specs.State.{State, entry_state}
use Rattle.machine.specs.declared.calls.Question.{Question}
use Rattle.machine.specs.Step.{Outcome, Next, Ask, Verdict, Trap, step}
use Rattle.sched.specs.Turns.{onward, turn_within, turn_after, answers_of_calls, AreWords, HasAsked, HasEnded, StandsByPaths, TurnsArePaths}

-- ---- from paths to turns

onward-next : (go : State → List ℕ → Option Turn) (o : Outcome) (t : State) (answers : List ℕ) → o ≡ Next t → onward go answers o ≡ go t answers
onward-next go o t answers e = rw e refl

onward-ask : (go : State → List ℕ → Option Turn) (o : Outcome) (asked : Question) (on : ℕ → State) (a : ℕ) (answers : List ℕ) → o ≡ Ask asked on → onward go (a ∷ answers) o ≡ go (on a) answers
onward-ask go o asked on a answers e = rw e refl

onward-asks : (go : State → List ℕ → Option Turn) (o : Outcome) (asked : Question) (on : ℕ → State) → o ≡ Ask asked on → onward go [] o ≡ Some (turns.Ask asked)
onward-asks go o asked on e = rw e refl

onward-ends : (go : State → List ℕ → Option Turn) (o : Outcome) (v : ℕ) → o ≡ Verdict v → onward go [] o ≡ Some (turns.Verdict v)
onward-ends go o v e = rw e refl

-- the answers of one call more
answers-more : (calls : List Call) (asked : Question) (a : ℕ) (rest : List ℕ) → answers_of_calls (calls ++ call asked a ∷ []) ++ rest ≡ answers_of_calls calls ++ a ∷ rest
answers-more calls asked a rest =
    rw (map-append (λ (c : Call). c.answer) calls (call asked a ∷ [])) (append_assoc (answers_of_calls calls) (a ∷ []) rest)

-- after a path, what is left of the steps and the answers decides
along : (program : Program) (header : Header) (port : ℕ) (calls : List Call) (n : ℕ) (s : State) → Path program header port calls n s → (k : ℕ) (rest : List ℕ)
    → turn_within program header (n + k) (entry_state port) (answers_of_calls calls ++ rest) ≡ turn_within program header k s rest
along program header port calls n s entry k rest = let sum : 0 + k ≡ k = omega arith in rw sum refl
along program header port calls (suc n) t (moves {s = s} path e) k rest =
    let sum : suc n + k ≡ n + suc k = omega arith in
    rw sum (along program header port calls n s path (suc k) rest ∙ onward-next (turn_within program header k) _ t rest e)
along program header port calls (suc n) t (answered {calls = before} {s = s} {question = asked} {on = on} answer path e small) k rest =
    let sum : suc n + k ≡ n + suc k = omega arith in
    rw (sum, answers-more before asked answer rest) (along program header port before n s path (suc k) (answer ∷ rest) ∙ onward-ask (turn_within program header k) _ asked on answer rest e)

-- after a path of fewer steps than the budget, its last state decides
stands : (program : Program) (header : Header) (port : ℕ) (calls : List Call) (n : ℕ) (s : State) (turn : Option Turn) → Path program header port calls n s → n < program.budget
    → ((go : State → List ℕ → Option Turn) → onward go [] (step program header s) ≡ turn) → turn_after program header port (answers_of_calls calls) ≡ turn
stands program header port calls n s turn path few here =
    let left : program.budget ≡ n + suc (program.budget - n - 1) = omega (arith, few) in
    let there = rw append-nil at (along program header port calls n s path (suc (program.budget - n - 1)) []) in
    rw left (there ∙ here (turn_within program header (program.budget - n - 1)))

-- ---- from turns to paths

-- what is known if a turn was found
abbrev Found : Program → Header → (port : ℕ) → (answers : List ℕ) → Turn → Type 0
Found program header port answers (turns.Ask question) = HasAsked program header port answers question
Found program header port answers (turns.Verdict v) = HasEnded program header port answers v

some-is : {A : Type 0} (x y : A) → ◌≡◌ {A = Option A} (Some x) (Some y) → x ≡ y
some-is x y e = cc

none-is : {A : Type 0} (x : A) → ◌≡◌ {A = Option A} None (Some x) → ⊥
none-is x e = cc

-- whatever path leads to a state, what is found from it on is found from the entry state on
abbrev Finds : Program → Header → (port steps : ℕ) → Type 0
Finds program header port steps =
    (calls : List Call) (n : ℕ) (s : State) → Path program header port calls n s → (rest : List ℕ) → AreWords rest → (turn : Turn)
    → turn_within program header steps s rest ≡ Some turn → Found program header port (answers_of_calls calls ++ rest) turn

-- one step more, by what it gives
found-by : (program : Program) (header : Header) (port steps : ℕ) → ((calls : List Call) (n : ℕ) (s : State) → Path program header port calls n s → n < program.budget) → Finds program header port steps
    → (calls : List Call) (n : ℕ) (s : State) → Path program header port calls n s → (rest : List ℕ) → AreWords rest → (turn : Turn)
    → (o : Outcome) → step program header s ≡ o → onward (turn_within program header steps) rest o ≡ Some turn → Found program header port (answers_of_calls calls ++ rest) turn
found-by program header port steps few further calls n s path rest words turn (Next t) is e =
    further calls (suc n) t (moves path is) rest words turn e
found-by program header port steps few further calls n s path [] words turn (Ask asked on) is e =
    let here : HasAsked program header port (answers_of_calls calls ++ []) asked = record { calls = calls; answered = sym (append-nil (answers_of_calls calls)); steps = n; last = s; on = on; path = path; asks = is } in
    subst (λ (t : Turn). Found program header port (answers_of_calls calls ++ []) t) (some-is (turns.Ask asked) turn e) here
found-by program header port steps few further calls n s path (a ∷ rest) words turn (Ask asked on) is e =
    let there = further (calls ++ call asked a ∷ []) (suc n) (on a) (answered a path is (All-head (λ x. x < 2 ^ 64) a rest words)) rest (All-tail (λ x. x < 2 ^ 64) a rest words) turn e in
    subst (λ (answers : List ℕ). Found program header port answers turn) (answers-more calls asked a rest) there
found-by program header port steps few further calls n s path [] words turn (Verdict v) is e =
    let within = few calls n s path in
    let here : HasEnded program header port (answers_of_calls calls ++ []) v = record { calls = calls; answered = sym (append-nil (answers_of_calls calls)); run = (n + 1, omega (arith, within), record { before = n; last = s; path = path; steps = refl; exit = is }) } in
    subst (λ (t : Turn). Found program header port (answers_of_calls calls ++ []) t) (some-is (turns.Verdict v) turn e) here
found-by program header port steps few further calls n s path (a ∷ rest) words turn (Verdict v) is e = absurd (none-is turn e)
found-by program header port steps few further calls n s path rest words turn Trap is e = absurd (none-is turn e)

found : (program : Program) (header : Header) (port steps : ℕ) → ((calls : List Call) (n : ℕ) (s : State) → Path program header port calls n s → n < program.budget) → Finds program header port steps
found program header port zero few calls n s path rest words turn e = absurd (none-is turn e)
found program header port (suc steps) few calls n s path rest words turn e =
    found-by program header port steps few (found program header port steps few) calls n s path rest words turn (step program header s) refl e

-- ---- both

stands-by : (program : Program) (sizes : Maps) (header : Header) (port : ℕ) (answers : List ℕ) → IsSafe program sizes → IsProgramHeader header → port < 32 → AreWords answers → StandsByPaths program header port answers
stands-by program sizes header port answers safe is low words =
    let few = λ (calls : List Call) (n : ℕ) (s : State) (path : Path program header port calls n s). safe.ends header port calls n s is low path in
    let from = found program header port program.budget few [] 0 (entry_state port) entry answers words in
    record {
      asks = λ asked. (
        λ e. from (turns.Ask asked) e,
        λ (a : HasAsked program header port answers asked). subst (λ (reported : List ℕ). turn_after program header port reported ≡ Some (turns.Ask asked)) a.answered
            (stands program header port a.calls a.steps a.last _ a.path (few a.calls a.steps a.last a.path) (λ go. onward-asks go _ asked a.on a.asks)),
      );
      ends = λ v. (
        λ e. from (turns.Verdict v) e,
        λ (a : HasEnded program header port answers v). let run = a.run.2 in
            subst (λ (reported : List ℕ). turn_after program header port reported ≡ Some (turns.Verdict v)) a.answered
            (stands program header port a.calls run.before run.last _ run.path (few a.calls run.before run.last run.path) (λ go. onward-ends go _ v run.exit)),
      );
    }

pub turns_are_paths : TurnsArePaths
turns_are_paths program sizes header port answers safe is low words = stands-by program sizes header port answers safe is low words

-- ---- answers

-- the answers along a path are words
pub words_answered : (program : Program) (header : Header) (port : ℕ) (calls : List Call) (n : ℕ) (s : State) → Path program header port calls n s → AreWords (answers_of_calls calls)
words_answered program header port calls n s entry = All-nil (λ x. x < 2 ^ 64)
words_answered program header port calls n s (moves path is) = words_answered program header port calls _ _ path
words_answered program header port calls n s (answered {calls = before} {question = asked} answer path is small) =
    rw (map-append (λ (c : Call). c.answer) before (call asked answer ∷ [])) (All-push (λ x. x < 2 ^ 64) (answers_of_calls before) answer (words_answered program header port before _ _ path) small)
