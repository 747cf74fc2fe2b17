use Rattle.node_parts.proofs.Services.{served, all_stay_paired}
use Rattle.node_parts.proofs.laws.packets_keep_pairs.Goals as goal

pub returns : goal.returns
returns c =
    record {
      served = served;
      all = all_stay_paired c.extents_stay.ensures;
    }
