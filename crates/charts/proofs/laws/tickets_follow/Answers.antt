use Rattle.charts.proofs.Least.{tickets_follow}
use Rattle.charts.proofs.laws.tickets_follow.Goals as goal

pub returns : goal.returns
returns c = tickets_follow
