use Rattle.std.proofs.Common.{ℕ, List, subst}
use Rattle.std.proofs.lemmas.Result.{on_ok_weaker}
use Rattle.job_trace.specs.Judged.{PrintsRun}
use Rattle.job_trace.proofs.Histories.{traces_command}
use Rattle.job_trace.proofs.judged.trace_taken.Goals as goal

pub returns : goal.returns
returns g c =
    let old = g.W.Write.contents c.args.out.now in
    let between = g.W.Write.contents c.print_run.new.out in
    let asked = c.answer_helpers.new.world in
    let run = subst (λ (answers : List ℕ). PrintsRun c.args.port answers asked old between) c.deref.ensures.value c.in_ok-print_run.ensures in
    on_ok_weaker c.end_command.result (λ ended. traces_command c.args.port _ c.args.world.now asked c.end_command.new.world old between _ c.in_ok-answers.ensures run ended) c.end_command.ensures
