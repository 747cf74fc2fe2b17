use Rattle.absdom_num.proofs.Order.{is_order, is_sound, is_join}
use Rattle.absdom_num.proofs.laws.ranges_are_ordered.Goals as goal

pub returns : goal.returns
returns c = record { order = is_order; fits = is_sound; join = is_join }
