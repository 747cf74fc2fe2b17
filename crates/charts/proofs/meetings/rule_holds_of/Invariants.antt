use Rattle.std.proofs.Common.{◌≡◌, drop}
use Rattle.charts.specs.Meetings.{rule_holds_of}
use Rattle.charts.proofs.meetings.rule_holds_of.Given as goal

abbrev pub invariant-loop-rule : goal.invariant-loop-rule
invariant-loop-rule l = rule_holds_of l.left (drop l.rule-index l.rules) l.point ≡ rule_holds_of l.place l.rules l.point
