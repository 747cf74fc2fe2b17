use Rattle.std.proofs.Common.{refl}
use Rattle.single_node_c.specs.Opening.{opened, unopened}
use Rattle.single_node_c.proofs.opening.sandbar_open.Goals as goal

pub returns-in-Ok-clause-reported : goal.returns-in-Ok-clause-reported
returns-in-Ok-clause-reported c = λ _. opened c.in-Ok.node.value c.in-Ok.ensures.made c.in-Ok.ensures.sums c.put-in-Ok.ensures refl c.no_why.ensures

pub returns-in-Err-clause-reported : goal.returns-in-Err-clause-reported
returns-in-Err-clause-reported c = λ _.
    unopened c.in-Err.unfit c.in-Err.ensures.fault c.take.ensures.left c.code.ensures c.why.ensures
