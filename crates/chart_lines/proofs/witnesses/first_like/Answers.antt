use Rattle.std.proofs.Common.{arith, sym}
use Rattle.chart_lines.proofs.After.{no_others, other_more}
use Rattle.chart_lines.proofs.witnesses.first_like.Goals as goal

pub loop-number-init : goal.loop-number-init
loop-number-init c = no_others c.args.lines.now c.args.place

pub loop-number-preserved : goal.loop-number-preserved
loop-number-preserved c =
    other_more c.args.lines.now c.args.place c.loop-number.number _ _ c.requires (omega (arith, c.loop-number-test.true)) (sym c.if-have_same_words.ensures) c.loop-number.invariant
