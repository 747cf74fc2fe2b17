use Rattle.std.proofs.Common.{rules, ◌≡◌, ◌+◌, Some}
use Rattle.machine.specs.Step.{insn_at}
use Rattle.stepper.specs.Machine.{state_of, step_of}
use Rattle.job_trace.specs.Runs.{IsStrideBy, stride_of}
use Rattle.job_trace.proofs.Striding.{strides_by}
use Rattle.job_trace.proofs.runs.trace_step.Goals as goal

pub returns-clause-printed : goal.returns-clause-printed
returns-clause-printed g c =
    let m = c.args.machine.now in
    let at : insn_at m.program m.slot ≡ Some c.in-Some.insn = search rules in
    let is : IsStrideBy (stride_of (m.steps + 1) c.args.budget m.slot c.in-Some.insn c.args.answers.now (step_of m)) c.in-Some-stride.change c.in-Some-stride.left (state_of c.stride.new.machine) = search rules in
    strides_by c.args.budget m c.stride.new.machine c.args.answers.now _ _ _ _ _ at is (search rules)
