use Rattle.std.proofs.Common.{◌∙◌, arith}
use Rattle.charts.proofs.Meeting.{holds_more}
use Rattle.charts.proofs.meetings.rule_holds_of.Goals as goal

pub loop-rule-preserved : goal.loop-rule-preserved
loop-rule-preserved c =
    holds_more c.args.rules.now c.args.point.now c.loop-rule.left c.loop-rule.rule-index (omega (arith, c.loop-rule-test.true)) (omega (arith, c.if-left-eq0.false)) ∙ c.loop-rule.invariant
