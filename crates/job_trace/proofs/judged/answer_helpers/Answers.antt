use Rattle.std.proofs.Common.{rules, ◌≡◌, ◌++◌, ◌∷◌, [], ℕ, List, sym, subst}
use Rattle.sched.specs.declared.event.Outcome.TheVariants.{Told}
use Rattle.job_trace.specs.Judged.{AnswersHelpers}
use Rattle.job_trace.proofs.Histories.{answers_more, answers_none}
use Rattle.job_trace.proofs.judged.answer_helpers.Goals as goal

pub loop-question-init : goal.loop-question-init
loop-question-init c =
    subst (λ (items : List ℕ). AnswersHelpers c.args.port items c.args.world.now c.args.world.now) (sym c.new-answers.ensures.items) (answers_none c.args.port c.args.world.now)

pub loop-question-preserved : goal.loop-question-preserved
loop-question-preserved c =
    let reported = c.in-Ok-Told.reported in
    let before = c.loop-question.answers.items in
    let grown : c.push.new.self.items ≡ before ++ reported ∷ [] = search rules in
    let same : c.in-Ok-Told.field-0 ≡ Told reported = search rules in
    subst (λ (items : List ℕ). AnswersHelpers c.args.port items c.args.world.now c.step.new.world) (sym grown)
    (answers_more c.args.port before reported c.in-Some.event c.in-Ok-Told.field-0 c.args.world.now c.loop-question.world c.step.new.world c.loop-question.invariant c.in-Some.ensures same c.in-Ok-Told.ensures.goes_on)
