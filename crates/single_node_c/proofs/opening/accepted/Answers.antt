use Rattle.std.proofs.Common.{refl}
use Rattle.single_node_c.proofs.Faults.{numbers_unfit}
use Rattle.single_node_c.proofs.opening.accepted.Goals as goal

pub returns-clause-unfit : goal.returns-clause-unfit
returns-clause-unfit c =
    numbers_unfit c.args.maps.now c.args.image.now c.in-Some.sizes (c.in-Some.ensures.maps.0 refl) c.in-Some.ensures.sizes
    c.program_of.result c.program_of.ensures
