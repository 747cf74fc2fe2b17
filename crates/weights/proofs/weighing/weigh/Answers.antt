use Rattle.std.proofs.Common.{◌≡◌, ◌∙◌, rules, subst}
use Rattle.bpf.specs.Program.{Program}
use Rattle.bpf.specs.Weight.{saturated_weight}
use Rattle.bver.specs.Justified.{IsJustified}
use Rattle.bver_form.specs.Costs.{weight_by}
use Rattle.weights.specs.Classes.{cost_by}
use Rattle.weights.proofs.Bounded.{is_exact}
use Rattle.weights.proofs.weighing.weigh.Goals as goal

pub returns-clause-value : goal.returns-clause-value
returns-clause-value c =
    let p = c.args.program.now.program in
    let justified : IsJustified p c.args.program.now.sizes = search rules in
    let value : c.weight_in.result ≡ saturated_weight (weight_by (cost_by c.args.costs.now) p) =
    subst (λ (q : Program). c.weight_in.result ≡ saturated_weight (weight_by (cost_by c.args.costs.now) q)) c.image.ensures.value c.weight_in.ensures in
    value ∙ is_exact c.args.costs.now p justified.limits justified.formed c.are_small.ensures

pub returns-clause-bound : goal.returns-clause-bound
returns-clause-bound c =
    let p = c.args.program.now.program in
    let justified : IsJustified p c.args.program.now.sizes = search rules in
    (c.justified_programs.ensures.costs p c.args.program.now.sizes justified).costs (cost_by c.args.costs.now)
