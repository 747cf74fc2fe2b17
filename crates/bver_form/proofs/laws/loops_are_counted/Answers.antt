use Rattle.bver_form.proofs.Counted.{are_entered, begins_within, each_takes_its_cost, its_cost_is_left, weight_is_of_ones}
use Rattle.bver_form.proofs.laws.loops_are_counted.Goals as goal

pub returns : goal.returns
returns c = record { begins = begins_within; steps = each_takes_its_cost; left = its_cost_is_left; ones = weight_is_of_ones; entered = are_entered }
