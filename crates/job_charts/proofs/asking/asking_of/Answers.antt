use Rattle.std.proofs.Common.{rules, ◌≡◌, Err}
use Rattle.job_charts.proofs.AskingFault.{spoiled}
use Rattle.job_charts.proofs.asking.asking_of.Goals as goal

pub returns-in_err-low-clause-err : goal.returns-in_err-low-clause-err
returns-in_err-low-clause-err c =
    let reported : c.from_residual-in_err-low.result ≡ Err c.in_err-low.field-0.0 = search rules in
    rw reported (spoiled _ _ c.in_err-low.ensures.err)
