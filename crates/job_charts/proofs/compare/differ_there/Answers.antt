use Rattle.job_charts.proofs.DifferAt.{by_asked}
use Rattle.job_charts.proofs.compare.differ_there.Goals as goal

pub returns : goal.returns
returns c =
    by_asked c.args.asked.now c.args.old.now c.args.new.now c.args.port c.in_ok-old.old c.in_ok-new.new c.are_apart.result c.in_ok-old.ensures c.in_ok-new.ensures c.are_apart.ensures
