use Rattle.node_parts.proofs.Pairings.{own_stays_paired, others_stay_paired}
use Rattle.node_parts.proofs.laws.pairs_stay.Goals as goal

pub returns-clause-own : goal.returns-clause-own
returns-clause-own c = own_stays_paired c.extents_stay.ensures

pub returns-clause-others : goal.returns-clause-others
returns-clause-others c = others_stay_paired c.extents_stay.ensures
