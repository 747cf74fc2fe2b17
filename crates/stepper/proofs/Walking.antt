-- The slow machine walks along paths of the definition.
use Rattle.std.proofs.Common.{◌≡◌, ℕ, ◌+◌, ◌^◌, ◌<◌, refl, sym, ap, ◌∙◌, subst, arith, add-one, Bool, true, false, cond, List, [], ◌∷◌, ◌++◌, map, append_assoc}
use Rattle.std.proofs.lemmas.List.{map-append, append-nil}
use Rattle.bpf.specs.Program.{Program}
use Rattle.machine.specs.declared.calls.Call.{Call}
use Rattle.stepper.specs.declared.outcomes.StepOutcome.TheVariants as reported
use Rattle.machine.specs.Memory.{Header}
use Rattle.machine.specs.Sizes.{Maps}
use Rattle.machine.specs.Laws.{QuestionsGoOn}
use Rattle.machine.specs.State.{State, entry_state}
use Rattle.machine.specs.declared.calls.Question.{Question}
use Rattle.machine.specs.Step.{Outcome, Next, Ask, Verdict, Trap, after_answer, insn_at, step, finds_maps, step_with}
use Rattle.machine.specs.Runs.{Path, moves, call}
use Rattle.machine.specs.Runs as runs
use Rattle.stepper.specs.Machine.{MachineValue, state_of, step_of, IsOutcome, IsAsk, IsSameRun}
use Rattle.stepper.specs.Endings.{answers_of, IsClear, Walk, WalkEnds, WalkTraps, WalkAsks}

-- ---- what an outcome of the machine says of the definition's

outcome_moves : (o : Outcome) (s t : State) → IsOutcome o reported.Next s t → o ≡ Next t
outcome_moves (Next u) s t h = ap Next (sym h.1)
outcome_moves (Ask question on) s t h = let e = h.0 in cc
outcome_moves (Verdict verdict) s t h = let e = h.0 in cc
outcome_moves Trap s t h = let e = h.0 in cc

pub outcome_asks : (o : Outcome) (asked : Question) (s t : State) → IsOutcome o (reported.Ask asked) s t → (on : ℕ → State) × (o ≡ Ask asked on) × (t ≡ s)
outcome_asks (Next u) asked s t h = let e = h.0 in absurd cc
outcome_asks (Ask other on) asked s t h =
    let e = h.0 in
    let same : other ≡ asked = cc in
    (on, ap (λ (q : Question). Ask q on) same, h.1)
outcome_asks (Verdict verdict) asked s t h = let e = h.0 in absurd cc
outcome_asks Trap asked s t h = let e = h.0 in absurd cc

outcome_ends : (o : Outcome) (verdict : ℕ) (s t : State) → IsOutcome o (reported.Verdict verdict) s t → o ≡ Verdict verdict
outcome_ends (Next u) verdict s t h = let e = h.0 in cc
outcome_ends (Ask question on) verdict s t h = let e = h.0 in cc
outcome_ends (Verdict v) verdict s t h = let e = h.0 in cc
outcome_ends Trap verdict s t h = let e = h.0 in cc

outcome_traps : (o : Outcome) (s t : State) → IsOutcome o reported.Trap s t → o ≡ Trap
outcome_traps (Next u) s t h = let e = h.0 in cc
outcome_traps (Ask question on) s t h = let e = h.0 in cc
outcome_traps (Verdict verdict) s t h = let e = h.0 in cc
outcome_traps Trap s t h = refl

-- ---- the step without map sizes

pub choice : (b : Bool) (x o : Outcome) → cond b x Trap ≡ o → (o ≡ Trap → ⊥) → x ≡ o
choice true x o e no_trap = e
choice false x o e no_trap = absurd (no_trap (sym e))

pub without_sizes : (sizes : Maps) (program : Program) (header : Header) (s : State) (o : Outcome) → step_with sizes program header s ≡ o → (o ≡ Trap → ⊥) → step program header s ≡ o
without_sizes sizes program header s o e no_trap = choice (finds_maps sizes s (insn_at program s.slot)) _ o e no_trap

-- ---- the machine on its path

-- a path without a trap, with maps of these sizes
pub record ClearPath (program : Program) (header : Header) (sizes : Maps) (port : ℕ) (calls : List Call) (n : ℕ) (last : State) : Type 0 where
  pub path : Path program header port calls n last
  pub clear : IsClear sizes program header port calls n last path

-- after n steps, with some answers left
pub record IsAt (program : Program) (header : Header) (sizes : Maps) (port : ℕ) (answers : List ℕ) (n : ℕ) (m : MachineValue) (left : List ℕ) : Type 0 where
  pub same_program : m.program ≡ program
  pub same_header : m.header ≡ header
  pub same_sizes : m.sizes ≡ sizes
  pub calls : List Call
  pub way : ClearPath program header sizes port calls n (state_of m)
  pub given : answers ≡ answers_of calls ++ left

pub same_step : (sizes sizes' : Maps) (program program' : Program) (header header' : Header) (s s' : State) → sizes ≡ sizes' → program ≡ program' → header ≡ header' → s ≡ s' → step_with sizes program header s ≡ step_with sizes' program' header' s'
same_step sizes sizes' program program' header header' s s' e f g h = rw (e, f, g, h) refl

-- after the outcome, which does not change the state, the machine still asks the question
pub still_asks : (m after : MachineValue) (asked : Question) → IsOutcome (step_of m) (reported.Ask asked) (state_of m) (state_of after) → IsSameRun m after → IsAsk (step_of after)
still_asks m after asked outcome same =
    let reported = outcome_asks _ asked _ _ outcome in
    let again : step_of after ≡ Ask asked reported.0 = same_step _ _ _ _ _ _ (state_of after) (state_of m) same.sizes same.program same.header reported.2 ∙ reported.1 in
    subst (λ (o : Outcome). IsAsk o) (sym again) tt

module _ (program : Program) (header : Header) (sizes : Maps) (port : ℕ) (answers : List ℕ) where
  -- the next step of the running program
  here : (n : ℕ) (m : MachineValue) (left : List ℕ) (o : Outcome) → IsAt program header sizes port answers n m left → step_of m ≡ o → step_with sizes program header (state_of m) ≡ o
  here n m left o at e = rw (at.same_program, at.same_header, at.same_sizes) at e

  pub walk_moves : (n : ℕ) (m after : MachineValue) (left : List ℕ) → IsAt program header sizes port answers n m left → IsOutcome (step_of m) reported.Next (state_of m) (state_of after) → IsSameRun m after → IsAt program header sizes port answers (n + 1) after left
  walk_moves n m after left at outcome same =
      let with_sizes = here n m left (Next (state_of after)) at (outcome_moves _ _ _ outcome) in
      let no_trap : Next (state_of after) ≡ Trap → ⊥ = λ e. cc in
      let bare = without_sizes sizes program header (state_of m) _ with_sizes no_trap in
      record {
        same_program = same.program ∙ at.same_program;
        same_header = same.header ∙ at.same_header;
        same_sizes = same.sizes ∙ at.same_sizes;
        calls = at.calls;
        way = rw add-one (record { path = moves at.way.path bare; clear = (at.way.clear, λ e. no_trap (sym with_sizes ∙ e)) });
        given = at.given;
      }

  more_given : (calls : List Call) (c : Call) (left : List ℕ) → answers ≡ answers_of calls ++ (c.answer ∷ left) → answers ≡ answers_of (calls ++ c ∷ []) ++ left
  more_given calls c left e = e ∙ sym (ap (λ xs. xs ++ left) (map-append (λ d. d.answer) calls (c ∷ [])) ∙ append_assoc (answers_of calls) (c.answer ∷ []) left)

  pub walk_asks : QuestionsGoOn → (n : ℕ) (m paused after : MachineValue) (asked : Question) (answer : ℕ) (left : List ℕ) → IsAt program header sizes port answers n m (answer ∷ left) → IsOutcome (step_of m) (reported.Ask asked) (state_of m) (state_of paused) → IsSameRun m paused → answer < 2 ^ 64 → state_of after ≡ after_answer (state_of paused) answer → IsSameRun paused after → IsAt program header sizes port answers (n + 1) after left
  walk_asks goes_so n m paused after asked answer left at outcome same small goes_on same_after =
      let reported = outcome_asks _ asked _ _ outcome in
      let with_sizes = here n m (answer ∷ left) _ at reported.1 in
      let no_trap : Ask asked reported.0 ≡ Trap → ⊥ = λ e. cc in
      let bare = without_sizes sizes program header (state_of m) _ with_sizes no_trap in
      let on_is = goes_so program header (state_of m) asked reported.0 bare in
      let reached : reported.0 answer ≡ state_of after = ap (λ (f : ℕ → State). f answer) on_is ∙ sym (goes_on ∙ ap (λ s. after_answer s answer) reported.2) in
      let longer : ClearPath program header sizes port (at.calls ++ call asked answer ∷ []) _ (reported.0 answer) =
      record { path = runs.answered answer at.way.path bare small; clear = (at.way.clear, λ e. no_trap (sym with_sizes ∙ e)) }
      in
      record {
        same_program = same_after.program ∙ same.program ∙ at.same_program;
        same_header = same_after.header ∙ same.header ∙ at.same_header;
        same_sizes = same_after.sizes ∙ same.sizes ∙ at.same_sizes;
        calls = at.calls ++ call asked answer ∷ [];
        way = rw add-one (rw reached at longer);
        given = more_given at.calls (call asked answer) left at.given;
      }

  pub walk_ends : (n limit verdict : ℕ) (m after : MachineValue) (left : List ℕ) → IsAt program header sizes port answers n m left → IsOutcome (step_of m) (reported.Verdict verdict) (state_of m) (state_of after) → n < limit → WalkEnds program header sizes port answers limit verdict
  walk_ends n limit verdict m after left at outcome below =
      let with_sizes = here n m left (Verdict verdict) at (outcome_ends _ _ _ _ outcome) in
      let no_trap : Verdict verdict ≡ Trap → ⊥ = λ e. cc in
      record {
        calls = at.calls;
        left = left;
        n = n + 1;
        run = record { before = n; last = state_of m; path = at.way.path; steps = refl; exit = without_sizes sizes program header (state_of m) _ with_sizes no_trap };
        clear = at.way.clear;
        given = at.given;
        within = omega arith;
      }

  pub walk_traps : (n limit : ℕ) (m after : MachineValue) (left : List ℕ) → IsAt program header sizes port answers n m left → IsOutcome (step_of m) reported.Trap (state_of m) (state_of after) → n < limit → WalkTraps program header sizes port answers limit
  walk_traps n limit m after left at outcome below =
      record { n = n; walk = record { calls = at.calls; left = left; last = state_of m; path = at.way.path; clear = at.way.clear; given = at.given }; trap = here n m left Trap at (outcome_traps _ _ _ outcome); within = below }

  pub walk_stops : (limit : ℕ) (m : MachineValue) (left : List ℕ) → IsAt program header sizes port answers limit m left → Walk program header sizes port answers limit
  walk_stops limit m left at = record { calls = at.calls; left = left; last = state_of m; path = at.way.path; clear = at.way.clear; given = at.given }

  pub walk_lacks : (n limit : ℕ) (m paused : MachineValue) (asked : Question) → IsAt program header sizes port answers n m [] → IsOutcome (step_of m) (reported.Ask asked) (state_of m) (state_of paused) → n < limit → WalkAsks program header sizes port answers limit
  walk_lacks n limit m paused asked at outcome below =
      let reported = outcome_asks _ asked _ _ outcome in
      record {
        calls = at.calls;
        n = n;
        last = state_of m;
        path = at.way.path;
        clear = at.way.clear;
        given = at.given ∙ append-nil (answers_of at.calls);
        question = subst (λ (o : Outcome). IsAsk o) (sym (here n m [] _ at reported.1)) tt;
        within = below;
      }

  pub walk_begins : (m : MachineValue) → m.program ≡ program → m.header ≡ header → m.sizes ≡ sizes → state_of m ≡ entry_state port → IsAt program header sizes port answers 0 m answers
  walk_begins m same_program same_header same_sizes entered =
      record {
        same_program = same_program;
        same_header = same_header;
        same_sizes = same_sizes;
        calls = [];
        way = rw entered (record { path = runs.entry; clear = tt });
        given = refl;
      }

  -- the same machine, with the answers that are left in another form
  pub along_left : (n : ℕ) (m : MachineValue) (left after : List ℕ) → left ≡ after → IsAt program header sizes port answers n m left → IsAt program header sizes port answers n m after
  along_left n m left after e at = subst (λ (xs : List ℕ). IsAt program header sizes port answers n m xs) e at
