use Rattle.std.proofs.Common.{arith, rules}
use Rattle.chart_lines.proofs.Somewhere.{nowhere, nowhere_more, somewhere}
use Rattle.chart_lines.proofs.never.is_somewhere.Goals as goal

pub returns-then-is_fate_at : goal.returns-then-is_fate_at
returns-then-is_fate_at c =
    somewhere c.args.fate c.args.tables.now c.args.line c.loop-place.place c.is_fate_at.result (omega (arith, c.loop-place-test.true)) (search rules) c.is_fate_at.ensures

pub loop-place-preserved : goal.loop-place-preserved
loop-place-preserved c =
    nowhere_more c.args.fate c.args.tables.now c.args.line c.loop-place.place c.is_fate_at.result (omega (arith, c.loop-place-test.true)) (search rules) c.is_fate_at.ensures c.loop-place.invariant

pub returns : goal.returns
returns c = nowhere c.args.fate c.args.tables.now c.args.line c.loop-place.place (omega (arith, c.loop-place-test.false)) c.loop-place.invariant
