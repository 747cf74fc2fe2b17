use Rattle.charts.proofs.Walking.{alike_apart, reported_apart}
use Rattle.charts.proofs.walks.has_same_path.Goals as goal

pub returns-then-holds-holds_at-clause-other : goal.returns-then-holds-holds_at-clause-other
returns-then-holds-holds_at-clause-other c = λ _ same.
    alike_apart c.args.rules.now c.loop-rule.rule-index _ c.args.one.now c.args.other.now c.loop-rule-test.true c.loop-rule.invariant
    (reported_apart _ _ _ _ c.if-holds-holds_at.true c.holds_at-holds.ensures c.holds_at.ensures) same
