use Rattle.std.proofs.Common.{refl}
use Rattle.bver_pass.specs.Leading.{stays}
use Rattle.bver.proofs.passes.arrive.Goals as goal

pub returns-then-runs-clause-widened : goal.returns-then-runs-clause-widened
returns-then-runs-clause-widened c = rw c.if-runs.true (stays (c.stands_formed.ensures.heads (c.requires.plain c.if-runs.true)) refl)
