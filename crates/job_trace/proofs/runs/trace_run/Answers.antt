use Rattle.std.proofs.Common.{◌≡◌, ◌+◌, ℕ, List, Bor, Option, refl, ap, ◌∙◌, subst, arith}
use Rattle.std.specs.Prelude.{IfSome}
use Rattle.job_trace.specs.Runs.{Strides}
use Rattle.job_trace.proofs.Striding.{all_lines, begins_lines, ends_lines, goes_on_lines, none_of}
use Rattle.job_trace.proofs.runs.trace_run.Goals as goal

pub loop-step-init : goal.loop-step-init
loop-step-init g c = record {
  steps = c.requires;
  same = record { program = refl; header = refl; sizes = refl };
  text = begins_lines c.args.machine c.args.budget c.args.answers.now _;
}

pub loop-step-preserved : goal.loop-step-preserved
loop-step-preserved g c =
    let m = c.loop-step.machine in
    let after = c.trace_step.new.machine in
    let reported = c.in_ok-rest.ensures in
    let old = g.W.Write.contents c.loop-step.out in
    let new = g.W.Write.contents c.trace_step.new.out in
    let one = subst (λ (left : Option (Bor (List ℕ))). Strides c.args.budget m after c.loop-step.left.now old new left) c.in-Some.is reported.printed in
    let steps = subst (λ (left : Option (Bor (List ℕ))). IfSome left (λ _. after.steps ≡ m.steps + 1)) c.in-Some.is reported.steps in
    let before = c.loop-step.invariant in
    record {
      steps = steps ∙ ap (λ (k : ℕ). k + 1) before.steps;
      same = record {
        program = reported.run.program ∙ before.same.program;
        header = reported.run.header ∙ before.same.header;
        sizes = reported.run.sizes ∙ before.same.sizes;
      };
      text = goes_on_lines c.args.machine m after c.args.budget c.loop-step._step c.args.answers.now c.loop-step.left.now c.in-Some.rest _ old new before.same before.steps before.text one;
    }

pub returns-in_default : goal.returns-in_default
returns-in_default g c =
    let m = c.loop-step.machine in
    let after = c.trace_step.new.machine in
    let old = g.W.Write.contents c.loop-step.out in
    let new = g.W.Write.contents c.trace_step.new.out in
    let one = subst (λ (left : Option (Bor (List ℕ))). Strides c.args.budget m after c.loop-step.left.now old new left) (none_of _ c.in_default.not-Some) c.in_ok-rest.ensures.printed in
    let before = c.loop-step.invariant in
    ends_lines c.args.machine m after c.args.budget c.loop-step._step c.args.answers.now c.loop-step.left.now _ old new before.same before.steps c.loop-step-test.true before.text one

pub returns : goal.returns
returns g c =
    let all : c.loop-step._step ≡ c.args.budget = omega arith in
    all_lines c.args.machine c.loop-step.machine c.args.budget c.loop-step._step c.args.answers.now c.loop-step.left.now _ _ all c.loop-step.invariant.text
