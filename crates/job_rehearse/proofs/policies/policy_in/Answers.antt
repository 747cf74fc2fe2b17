use Rattle.std.proofs.Common.{inl, inr, rules}
use Rattle.std.proofs.lemmas.Result.{err_from_is_err_and}
use Rattle.job_rehearse.proofs.policies.policy_in.Goals as goal

pub returns-in_err-image_of-clause-none : goal.returns-in_err-image_of-clause-none
returns-in_err-image_of-clause-none g c =
    let gone = err_from_is_err_and c.from_residual-in_err-image_of.result c.from_residual-in_err-image_of.ensures.1 in
    rw (gone.1, gone.2) (inr (record { bytes = _; read = c.in_ok-bytes.ensures.gave; is_none = inl (search rules, search rules) }))
