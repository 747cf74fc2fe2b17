use Rattle.std.proofs.Common.{◌≡◌}
use Rattle.stepper.specs.Machine.{IsSameRun}
use Rattle.job_trace.proofs.Striding.{Prints_so_far}
use Rattle.job_trace.proofs.runs.trace_run.Given as goal

abbrev pub invariant-loop-step : goal.invariant-loop-step
invariant-loop-step g l =
    let start = l.initial.machine in
    record {
      steps : l.machine.steps ≡ l._step;
      same : IsSameRun start l.machine;
      text : Prints_so_far start l.machine l.budget l._step l.answers l.left (g.W.Write.contents l.fn.out) (g.W.Write.contents l.out);
    }
