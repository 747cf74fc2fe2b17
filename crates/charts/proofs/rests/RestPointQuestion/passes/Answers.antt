use Rattle.std.proofs.Common.{arith}
use Rattle.charts.proofs.Resting.{rest_passed}
use Rattle.charts.proofs.rests.RestPointQuestion.passes.Goals as goal

pub returns-then-number-self : goal.returns-then-number-self
returns-then-number-self c =
    let self = c.args.self.now in
    rest_passed self.before.now self.line.now self.region.now c.args.number (omega (arith, c.if-number-self.true))
