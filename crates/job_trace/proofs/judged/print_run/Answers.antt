use Rattle.std.proofs.Common.{rules, ◌≡◌}
use Rattle.std.proofs.lemmas.Result.{on_ok_weaker}
use Rattle.machine.specs.State.{entry_state}
use Rattle.machine.specs.Memory.{header}
use Rattle.stepper.specs.Machine.{state_of}
use Rattle.job_trace.proofs.Histories.{prints_run}
use Rattle.job_trace.proofs.judged.print_run.Goals as goal

pub returns : goal.returns
returns g c =
    let j = c.in-Some.standing in
    let m = c.start-machine.result in
    let program : m.program ≡ j.program.now.program = search rules in
    let head : m.header ≡ header j.front.now j.tail.now = search rules in
    let sizes : m.sizes ≡ j.program.now.sizes = search rules in
    let budget : c.budget.result ≡ j.program.now.program.budget = search rules in
    let entered : state_of m ≡ entry_state c.args.port = search rules in
    on_ok_weaker c.trace_run.result
    (λ lines. prints_run c.args.port c.args.answers.now c.args.world.now _ _ _ j m.program m.header m.sizes c.budget.result (state_of m) c.in-Some.ensures.lent program head sizes budget entered (search rules) lines)
    c.trace_run.ensures
