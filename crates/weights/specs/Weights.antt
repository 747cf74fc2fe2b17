-- The weights of a program, class by class.
use Rattle.std.specs.Prelude.{◌≡◌, ◌+◌}
use Rattle.bpf.specs.Program.{Program}
use Rattle.bpf.specs.Weight.{weight_of}
use Rattle.bver_form.specs.Costs.{weight_by}
use Rattle.weights.specs.Classes.{cost_by, costs}
use Rattle.weights.specs.declared.weighing.Weights.{Weights}

-- ---- the statement

-- The weight of each class is that by a cost of one for its instructions and of nothing for others. Together the
-- weights are the program's weight.
pub record AreWeights (p : Program) (weights : Weights) : Type 0 where
  pub division : weights.division ≡ weight_by (cost_by (costs 1 0 0 0)) p
  pub call : weights.call ≡ weight_by (cost_by (costs 0 1 0 0)) p
  pub jump : weights.jump ≡ weight_by (cost_by (costs 0 0 1 0)) p
  pub rest : weights.rest ≡ weight_by (cost_by (costs 0 0 0 1)) p
  pub all : weights.division + weights.call + weights.jump + weights.rest ≡ weight_of p
