use Rattle.std.proofs.lemmas.Result.{IfOk-weaker}
use Rattle.job_charts.proofs.DifferAt.{charted}
use Rattle.job_charts.proofs.compare.differ_at.Goals as goal

pub returns : goal.returns
returns c =
    IfOk-weaker c.differ_there.result _ _ (λ is known. charted c.args.asked.now c.args.old.now c.args.new.now c.args.port is c.requires known) c.differ_there.ensures
