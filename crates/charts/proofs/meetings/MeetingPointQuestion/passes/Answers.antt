use Rattle.charts.proofs.Stopping.{meeting_passed}
use Rattle.charts.proofs.meetings.MeetingPointQuestion.passes.Goals as goal

pub returns : goal.returns
returns c =
    let self = c.args.self.now in
    meeting_passed c.stops_before.result self.asked self.ends self.place self.rules.now c.args.number c.stops_before.ensures
