use Rattle.std.proofs.Common.{◌≡◌, rules}
use Rattle.bpf.specs.Weight.{saturated_weight, weight_of}
use Rattle.job_weigh.proofs.Lines.{lines_are}
use Rattle.job_weigh.proofs.weigh.print_weights.Goals as goal

pub returns : goal.returns
returns g c =
    let p = c.args.program.now.program in
    let weight : c.weight-all.result ≡ saturated_weight (weight_of p) = search rules in
    lines_are p c.weights_of-found.result c.weight-all.result _ _ c.weights_of-found.ensures weight c.in_ok-print_lines.ensures
