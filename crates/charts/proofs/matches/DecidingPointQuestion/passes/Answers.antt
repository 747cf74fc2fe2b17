use Rattle.charts.proofs.Stopping.{deciding_passed}
use Rattle.charts.proofs.matches.DecidingPointQuestion.passes.Goals as goal

pub returns : goal.returns
returns c = deciding_passed c.stops_before.result c.args.self.now.rules.now c.args.number c.args.self.now.place c.stops_before.ensures
