use Rattle.std.proofs.Common.{◌≡◌, drop}
use Rattle.charts.specs.Meetings.{is_asked_at}
use Rattle.charts.proofs.meetings.is_asked_at.Given as goal

abbrev pub invariant-loop-rule : goal.invariant-loop-rule
invariant-loop-rule l = is_asked_at l.left l.ends (drop l.rule-index l.rules) l.point ≡ is_asked_at l.place l.ends l.rules l.point
