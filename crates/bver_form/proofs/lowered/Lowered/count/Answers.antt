use Rattle.std.proofs.Common.{arith}
use Rattle.bver_form.proofs.Counts.{count_below}
use Rattle.bver_form.proofs.lowered.Lowered.count.Goals as goal

pub returns-clause-limit : goal.returns-clause-limit
returns-clause-limit c = omega (arith, c.self.invariant.0, c.self.invariant.1, count_below c.self.inside.lowered)
