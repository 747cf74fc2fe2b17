use Rattle.charts.proofs.Tickets.{alike_by_test}
use Rattle.charts.proofs.decisions.alike.Goals as goal

pub returns : goal.returns
returns c = alike_by_test c.are_alike.result c.args.old.now c.args.new.now c.args.point.now c.are_alike.ensures
