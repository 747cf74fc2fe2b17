use Rattle.std.proofs.Common.{arith}
use Rattle.charts.proofs.Joining.{all_within, one_within}
use Rattle.charts.proofs.pieces.lie_within.Goals as goal

pub loop-place-preserved : goal.loop-place-preserved
loop-place-preserved c =
    one_within c.args.lines.now c.loop-place.place _ c.args.asked.now (omega (arith, c.loop-place-test.true)) c.if-not-is_within.ensures c.loop-place.invariant

pub returns : goal.returns
returns c = all_within c.args.lines.now c.loop-place.place c.args.asked.now (omega (arith, c.loop-place-test.false)) c.loop-place.invariant
