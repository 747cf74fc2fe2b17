use Rattle.std.proofs.Common.{◌≡◌, ◌≤◌, ◌+◌, drop}
use Rattle.bpf.specs.Weight.{saturated_weight}
use Rattle.bver_form.specs.Costs.{weight_by, weight_by_from}
use Rattle.weights.specs.Classes.{cost_by}
use Rattle.weights.proofs.weighing.weight_in.Given as goal

abbrev pub invariant-loop-slot : goal.invariant-loop-slot
invariant-loop-slot l = record {
  small : l.weight ≤ 18446744073709551615;
  total : saturated_weight (l.weight + weight_by_from (cost_by l.costs) l.image.loops l.slot (drop l.slot l.image.slots)) ≡ saturated_weight (weight_by (cost_by l.costs) l.image);
}
