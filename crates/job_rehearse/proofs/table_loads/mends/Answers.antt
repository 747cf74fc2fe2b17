use Rattle.std.proofs.Common.{Some, None, rules}
use Rattle.std.proofs.lemmas.Result.{IfOk-weaker}
use Rattle.job_rehearse.specs.TableLoads.{AsksTable}
use Rattle.job_rehearse.proofs.Reporting.{mends_some, mends_none}
use Rattle.job_rehearse.proofs.table_loads.mends.Goals as goal

pub returns-in-Some : goal.returns-in-Some
returns-in-Some c =
    let asks : AsksTable c.args.sizes.now c.args.text.now (Some c.in-Some.asked) = search rules in
    IfOk-weaker c.lets_sixty_seven.result _ _ (λ is lets. mends_some c.args.sizes.now c.args.text.now c.in-Some.asked is asks lets) c.lets_sixty_seven.ensures

pub returns-in-None : goal.returns-in-None
returns-in-None c =
    let asks : AsksTable c.args.sizes.now c.args.text.now None = search rules in
    mends_none c.args.sizes.now c.args.text.now asks
