use Rattle.std.proofs.Common.{subst, sym}
use Rattle.single_node_c.specs.declared.unfit.Unfit.{Unfit}
use Rattle.single_node_c.specs.Opening.{IsImageUnfit}
use Rattle.single_node_c.proofs.Faults.{image_unfit}
use Rattle.single_node_c.proofs.opening.image_of.Goals as goal

pub returns-in-Err-clause-fault : goal.returns-in-Err-clause-fault
returns-in-Err-clause-fault c = λ maps.
    subst (λ (u : Unfit). IsImageUnfit maps c.args.bytes.now u) (sym c.unfit_of.ensures)
    (image_unfit maps c.args.bytes.now c.in-Err.fault c.in-Err.ensures.exact)
