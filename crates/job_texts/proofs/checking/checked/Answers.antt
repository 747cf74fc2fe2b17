use Rattle.std.proofs.Common.{rules, ◌≡◌, Err}
use Rattle.job_texts.proofs.checking.checked.Goals as goal

pub returns-in_err-_accepted-clause-known : goal.returns-in_err-_accepted-clause-known
returns-in_err-_accepted-clause-known c =
    let reported : c.from_residual.result ≡ Err c.in_err-_accepted.field-0.0 = search rules in
    rw reported c.in_err-_accepted.ensures.known
