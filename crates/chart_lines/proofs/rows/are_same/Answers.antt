use Rattle.std.proofs.Common.{arith, rules}
use Rattle.chart_lines.proofs.Joining.{other_there, same_further}
use Rattle.chart_lines.proofs.rows.are_same.Goals as goal

pub returns-then-not-is_same_at : goal.returns-then-not-is_same_at
returns-then-not-is_same_at c =
    other_there c.args.one.now c.args.other.now c.loop-place.place c.is_same_at.result (omega (arith, c.loop-place-test.true)) (search rules) c.is_same_at.ensures

pub loop-place-preserved : goal.loop-place-preserved
loop-place-preserved c =
    same_further c.args.one.now c.args.other.now c.loop-place.place c.is_same_at.result (omega (arith, c.loop-place-test.true)) (omega (arith, c.if-one-other.false)) (search rules) c.is_same_at.ensures c.loop-place.invariant
