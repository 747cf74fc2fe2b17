-- What is printed of the weights of a program.
use Rattle.std.proofs.Common.{◌≡◌, ℕ, List, Option, ap, subst, ◌∙◌}
use Rattle.std.specs.Io.KnownBytes.{Appends}
use Rattle.bpf.specs.Program.{Program}
use Rattle.bpf.specs.Weight.{saturated_weight, weight_of}
use Rattle.bver_form.specs.Costs.{weight_by}
use Rattle.weights.specs.Classes.{cost_by, costs}
use Rattle.weights.specs.Weights.{AreWeights}
use Rattle.weights.specs.declared.weighing.Weights.{Weights}
use Rattle.job_weigh.specs.Weighed.{class_lines, weight_lines_of}

-- the lines of a program's weights are those of the program
pub lines_are : (p : Program) (found : Weights) (all : ℕ) (old new : Option (List ℕ)) → AreWeights p found → all ≡ saturated_weight (weight_of p)
    → Appends old new (weight_lines_of found.division found.call found.jump found.rest all) → Appends old new (class_lines p)
lines_are p found all old new are is printed =
    let division = weight_by (cost_by (costs 1 0 0 0)) p in
    let call = weight_by (cost_by (costs 0 1 0 0)) p in
    let jump = weight_by (cost_by (costs 0 0 1 0)) p in
    let rest = weight_by (cost_by (costs 0 0 0 1)) p in
    let same : weight_lines_of found.division found.call found.jump found.rest all ≡ class_lines p =
    ap (λ (n : ℕ). weight_lines_of n found.call found.jump found.rest all) are.division
    ∙ ap (λ (n : ℕ). weight_lines_of division n found.jump found.rest all) are.call
    ∙ ap (λ (n : ℕ). weight_lines_of division call n found.rest all) are.jump
    ∙ ap (λ (n : ℕ). weight_lines_of division call jump n all) are.rest ∙ ap (λ (n : ℕ). weight_lines_of division call jump rest n) is in
    subst (λ (text : List ℕ). Appends old new text) same printed
