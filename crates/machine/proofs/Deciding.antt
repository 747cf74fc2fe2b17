-- A safe program comes to a verdict.
use Rattle.std.proofs.Common.{◌≡◌, ℕ, zero, suc, ◌+◌, ◌<◌, ◌≤◌, ◌^◌, refl, ap, arith, Bool, true, false, cond, List, [], ◌∷◌, ◌++◌, length}
use Rattle.bpf.specs.Program.{Program}
use Rattle.machine.specs.declared.calls.Call.{Call}
use Rattle.machine.specs.Memory.{Header, IsProgramHeader}
use Rattle.machine.specs.Sizes.{Maps}
use Rattle.machine.specs.State.{State, entry_state}
use Rattle.machine.specs.Step.{Question, Outcome, Next, Ask, Verdict, Trap, insn_at, finds_maps, step, step_with}
use Rattle.machine.specs.Runs.{Path, entry, moves, answered, call, AreAnswered, IsSafe}
use Rattle.machine.specs.Laws.{ComesToVerdict, SafeComesToVerdict}

-- one call more gets the answer that follows
answered_more : (answers : ℕ → ℕ) (calls : List Call) (asked : Question) → AreAnswered answers calls → AreAnswered answers (calls ++ call asked (answers (length calls)) ∷ [])
answered_more answers [] asked before = (refl, tt)
answered_more answers (c ∷ calls) asked before = (before.0, answered_more (λ k. answers (suc k)) calls asked before.1)

if_trap : (b : Bool) (o : Outcome) → o ≡ Trap → cond b o Trap ≡ Trap
if_trap true o e = e
if_trap false o e = refl

module _ (program : Program) (sizes : Maps) (header : Header) (port : ℕ) (answers : ℕ → ℕ) (safe : IsSafe program sizes) (good : IsProgramHeader header) (low : port < 32) (words : (k : ℕ) → answers k < 2 ^ 64) where
  -- from a path with this many steps left of the budget
  abbrev GoesOn : (left : ℕ) → Type 0
  GoesOn left =
      (calls : List Call) (n : ℕ) (s : State) → Path program header port calls n s → AreAnswered answers calls → program.budget ≤ n + left → ComesToVerdict program header port answers

  goes_by : (left : ℕ) → GoesOn left → (calls : List Call) (n : ℕ) (s : State) → Path program header port calls n s → AreAnswered answers calls → program.budget ≤ n + suc left → (o : Outcome) → step program header s ≡ o → ComesToVerdict program header port answers
  goes_by left on calls n s path reported few (Next t) e = on calls (suc n) t (moves path e) reported (omega (arith, few))
  goes_by left on calls n s path reported few (Ask asked next) e =
      let answer = answers (length calls) in
      on (calls ++ call asked answer ∷ []) (suc n) (next answer) (answered answer path e (words (length calls))) (answered_more answers calls asked reported) (omega (arith, few))
  goes_by left on calls n s path reported few (Verdict v) e =
      let within : n < program.budget = safe.ends header port calls n s good low path in
      record {
        calls = calls;
        answered = reported;
        steps = n + 1;
        within = omega (arith, within);
        verdict = v;
        run = record { before = n; last = s; path = path; steps = refl; exit = e };
      }
  goes_by left on calls n s path reported few Trap e =
      absurd (safe.no_trap header port calls n s good low path (if_trap (finds_maps sizes s (insn_at program s.slot)) (step program header s) e))

  goes_on : (left : ℕ) → GoesOn left
  goes_on zero calls n s path reported few =
      let within : n < program.budget = safe.ends header port calls n s good low path in
      absurd (omega (arith, within, few))
  goes_on (suc left) calls n s path reported few = goes_by left (goes_on left) calls n s path reported few (step program header s) refl

pub comes_to_verdict : SafeComesToVerdict
comes_to_verdict program sizes header port answers safe good low words =
    goes_on program sizes header port answers safe good low words program.budget [] 0 (entry_state port) entry tt (omega arith)
