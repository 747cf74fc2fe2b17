use Rattle.std.proofs.Common.{refl}
use Rattle.single_node_c.specs.Opening.{fit, unfit}
use Rattle.single_node_c.proofs.opening.sandbar_verify.Goals as goal

pub returns-in-Ok : goal.returns-in-Ok
returns-in-Ok c = fit c.in-Ok._program c.in-Ok.ensures.maps c.in-Ok.ensures.program refl c.no_why.ensures

pub returns-in-Err : goal.returns-in-Err
returns-in-Err c = unfit c.in-Err.unfit c.in-Err.ensures.unfit c.code.ensures c.why.ensures
