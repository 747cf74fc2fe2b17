use Rattle.std.proofs.Common.{◌≡◌, ℕ, List, ◌++◌, Fits, w64, ◌<◌, ◌^◌, arith, refl, ap, ◌∙◌, ◌+◌, [], ◌∷◌, length, get_or}
use Rattle.std.proofs.lemmas.List.{get_or_at}
use Rattle.stepper.specs.Endings.{answers_of}
use Rattle.stepper.proofs.Walking.{walk_begins, walk_moves, walk_asks, walk_ends, walk_traps, walk_stops, walk_lacks, still_asks, along_left}
use Rattle.stepper.proofs.endings.walk.Goals as goal
use Rattle.stepper.proofs.endings.walk.Goals.{in-Next, in-Ask+in-Some}

none_left : (xs : List ℕ) → length xs ≡ 0 → xs ≡ []
none_left [] e = refl
none_left (x ∷ xs) e = absurd (omega arith)

given_small : (answers given rest : List ℕ) (answer : ℕ) → answers ≡ given ++ (answer ∷ rest) → ((i : ℕ) → Fits w64 (get_or answers i 0)) → answer < 2 ^ 64
given_small answers given rest answer e fit =
    let place : get_or answers (length given) 0 ≡ answer = rw e (get_or_at given answer rest 0 (length given) refl) in
    omega (arith, fit (length given))

pub loop-step-init : goal.loop-step-init
loop-step-init c = record {
  steps = c.requires;
  at = λ port entered. walk_begins _ _ _ _ _ _ refl refl refl entered;
}

pub returns-in_default : goal.returns-in_default
returns-in_default c =
    λ port entered.
    let at = along_left _ _ _ _ _ _ _ _ [] (none_left _ c.in_default.ensures.cases) (c.loop-step.invariant.at port entered) in
    walk_lacks _ _ _ _ _ _ _ c.loop-step.machine c.step.new.self _ at c.in-Ask.ensures.outcome c.loop-step-test.true

pub answer-requires : goal.answer-requires
answer-requires c = still_asks c.loop-step.machine c.step.new.self _ c.in-Ask.ensures.outcome c.in-Ask.ensures.run

pub returns-in-Verdict : goal.returns-in-Verdict
returns-in-Verdict c =
    λ port entered.
    walk_ends _ _ _ _ _ _ _ _ c.loop-step.machine c.step.new.self _ (c.loop-step.invariant.at port entered) c.in-Verdict.ensures.outcome c.loop-step-test.true

pub returns-in-Trap : goal.returns-in-Trap
returns-in-Trap c =
    λ port entered.
    walk_traps _ _ _ _ _ _ _ c.loop-step.machine c.step.new.self _ (c.loop-step.invariant.at port entered) c.in-Trap.ensures.outcome c.loop-step-test.true

pub loop-step-preserved : goal.loop-step-preserved
loop-step-preserved c =
    let before = c.loop-step.machine in
    let asked = c.step.new.self in
    let one_more = ap (λ k. k + 1) c.loop-step.invariant.steps in
    elim c.match-step.branch [
      | in-Next w ↦
          rw (w.machine-is, w.left-is) (record {
            steps = w.in-Next.ensures.steps ∙ one_more;
            at = λ port entered. walk_moves _ _ _ _ _ _ before asked _ (c.loop-step.invariant.at port entered) w.in-Next.ensures.outcome w.in-Next.ensures.run;
          })
      | in-Ask+in-Some w ↦
          rw (w.machine-is, w.left-is) (record {
            steps = w.answer.ensures.steps ∙ w.in-Ask.ensures.steps ∙ one_more;
            at = λ port entered.
                let at = along_left _ _ _ _ _ _ _ _ _ w.in-Some.ensures.cases.0 (c.loop-step.invariant.at port entered) in
                let small = given_small c.args.answers.now (answers_of at.calls) _ _ at.given c.type_inv.answers in
                walk_asks _ _ _ _ _ c.questions_go_on.ensures.steps _ before asked w.answer.new.self _ _ _ at w.in-Ask.ensures.outcome w.in-Ask.ensures.run small w.answer.ensures.state w.answer.ensures.run;
          })
    ]

pub returns : goal.returns
returns c =
    λ port entered.
    let all : c.loop-step._step ≡ c.args.limit = omega arith in
    let at = rw all at (c.loop-step.invariant.at port entered) in
    walk_stops _ _ _ _ _ _ _ _ at
