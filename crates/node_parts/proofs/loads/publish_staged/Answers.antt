use Rattle.node_parts.proofs.Loadings.{published_of}
use Rattle.node_parts.proofs.Refusals.{not_prepared_reported, not_published_reported}
use Rattle.node_parts.proofs.loads.publish_staged.Goals as goal

pub returns-in_err-slot-clause-refused : goal.returns-in_err-slot-clause-refused
returns-in_err-slot-clause-refused g c =
    not_prepared_reported _ _ _ _ _ _ _ c.sizes.ensures c.from_residual.ensures.1 c.in_err-slot.ensures.refused

pub returns-in_err-generation-clause-refused : goal.returns-in_err-generation-clause-refused
returns-in_err-generation-clause-refused g c =
    not_published_reported _ _ _ _ _ _ _ _ _ c.sizes.ensures c.from_residual-in_err-generation.ensures.1 c.in_ok-slot.ensures.prepared c.in_err-generation.ensures.refused

pub returns-clause-published : goal.returns-clause-published
returns-clause-published g c =
    published_of _ _ _ _ _ _ _ _ _ _ c.sizes.ensures c.in_ok-slot.ensures.prepared c.in_ok-generation.ensures.fewer c.in_ok-generation.ensures.published c.in_ok-generation.ensures.generation c.requires c.in_ok-generation.ensures.learnt

pub returns-clause-noted : goal.returns-clause-noted
returns-clause-noted g c = record { publish = _; longer = c.in_ok-generation.ensures.published; noted = c.in_ok-generation.ensures.noted }
