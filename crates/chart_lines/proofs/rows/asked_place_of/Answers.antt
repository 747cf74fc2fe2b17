use Rattle.std.proofs.Common.{arith, rules}
use Rattle.chart_lines.proofs.Joining.{none_more, none_of_all, says_there}
use Rattle.chart_lines.proofs.rows.asked_place_of.Goals as goal

pub returns-then-says : goal.returns-then-says
returns-then-says c =
    (omega (arith, c.loop-place-test.true), says_there c.args.rows.now c.loop-place.place c.args.reported.now c.says.result (search rules) c.says.ensures)

pub loop-place-preserved : goal.loop-place-preserved
loop-place-preserved c =
    none_more c.args.rows.now c.loop-place.place c.args.reported.now c.says.result (omega (arith, c.loop-place-test.true)) (search rules) c.says.ensures c.loop-place.invariant

pub returns : goal.returns
returns c = none_of_all c.args.rows.now c.loop-place.place c.args.reported.now (omega (arith, c.loop-place-test.false)) c.loop-place.invariant
