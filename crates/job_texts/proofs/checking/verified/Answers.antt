use Rattle.std.proofs.lemmas.Result.{err_from_is_err_and}
use Rattle.job_texts.proofs.checking.verified.Goals as goal

pub returns-in_err-check-clause-unjustified : goal.returns-in_err-check-clause-unjustified
returns-in_err-check-clause-unjustified c =
    let gone = err_from_is_err_and c.from_residual.result c.from_residual.ensures.1 in
    rw (gone.1, gone.2) (λ other justified. c.first_faults.ensures.refutes c.args.image.now c.in_err-check.field-0.0 c.in_err-check.ensures.first justified.formed)
