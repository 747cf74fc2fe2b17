use Rattle.bver.proofs.Open.{pair_is_closed}
use Rattle.bver.proofs.laws.something_is_closed.Goals as goal

pub returns : goal.returns
returns c = λ p limits form.
    (_, _, pair_is_closed c.apply_leaves.ensures.apply c.apply_leaves.ensures.call c.refine_shrinks.ensures c.order_of_states.ensures.reflexive p limits form)
