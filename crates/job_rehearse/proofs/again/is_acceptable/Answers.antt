use Rattle.std.proofs.lemmas.Result.{IfOk-weaker}
use Rattle.job_rehearse.proofs.Trying.{acceptable_by}
use Rattle.job_rehearse.proofs.again.is_acceptable.Goals as goal

pub returns-in-Ok : goal.returns-in-Ok
returns-in-Ok c =
    IfOk-weaker c.is_accepted.result _ _
    (λ is known. acceptable_by c.args.bytes.now c.args.sizes.now c.in-Ok.image is c.in-Ok.ensures.found c.in-Ok.ensures.only known)
    c.is_accepted.ensures
