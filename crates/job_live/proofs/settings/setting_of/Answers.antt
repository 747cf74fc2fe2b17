use Rattle.std.proofs.lemmas.Result.{err_from_is_err_and}
use Rattle.job_live.proofs.SetLines.{unset_bytes}
use Rattle.job_live.proofs.settings.setting_of.Goals as goal

pub returns-in_err-bytes_of-clause-err : goal.returns-in_err-bytes_of-clause-err
returns-in_err-bytes_of-clause-err c = λ words are.
    let gone = err_from_is_err_and c.from_residual-in_err-bytes_of.result c.from_residual-in_err-bytes_of.ensures.1 in
    rw (gone.1, gone.2) (unset_bytes words _ _ _ _ are c.in_err-bytes_of.ensures)
