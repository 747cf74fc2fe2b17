use Rattle.std.proofs.Common.{Some, None, refl, rules}
use Rattle.std.proofs.lemmas.Result.{IfOk-weaker}
use Rattle.job_rehearse.specs.Again.{IsTriedOn}
use Rattle.job_rehearse.proofs.again.denies_again.Goals as goal

pub returns-in-Some : goal.returns-in-Some
returns-in-Some c =
    let tried : IsTriedOn c.args.image.now (Some c.in-Some.sizes) = search rules in
    IfOk-weaker c.is_denied_again.result _ _ (λ denied is. (Some c.in-Some.sizes, tried, is)) c.is_denied_again.ensures

pub returns-in-None : goal.returns-in-None
returns-in-None c =
    let tried : IsTriedOn c.args.image.now None = search rules in
    (None, tried, refl)
