use Rattle.charts.proofs.Deciding.{never_by_test}
use Rattle.charts.proofs.matches.DecidingPointQuestion.ask.Goals as goal

pub returns : goal.returns
returns c = never_by_test c.may_decide.result c.args.self.now.rules.now c.args.self.now.place c.args.point.now c.may_decide.ensures
