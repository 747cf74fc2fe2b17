use Rattle.std.proofs.Common.{◌∙◌, sym, arith}
use Rattle.charts.proofs.Stopping.{held_at, none_held}
use Rattle.charts.proofs.matches.region_at.Goals as goal

pub returns-then-place-rules : goal.returns-then-place-rules
returns-then-place-rules c = λ p has lies. held_at c.args.rules.now c.args.place _ p (omega (arith, c.if-place-rules.true)) ∙ sym (c.region_of.ensures p has) ∙ lies

pub returns : goal.returns
returns c = λ p has lies. none_held c.args.rules.now c.args.place p (omega (arith, c.if-place-rules.false))
