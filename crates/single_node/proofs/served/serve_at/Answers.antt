use Rattle.std.proofs.Common.{subst, sym}
use Rattle.rmap.specs.Windows.{WindowsValue}
use Rattle.node_parts.specs.Steps.{IsAdmission}
use Rattle.node_parts.proofs.Loadings.{prefix_same}
use Rattle.single_node.proofs.Serving.{run_paired}
use Rattle.single_node.proofs.served.serve_at.Goals as goal

pub end-served-requires-clause-paired : goal.end-served-requires-clause-paired
end-served-requires-clause-paired c =
    let admission = subst (λ (w : WindowsValue). IsAdmission c.in-Ok.admitted c.args.packet w) c.requires.windows c.in-Ok.ensures.0 in
    run_paired c.args.banks.now c.args.port.now c.judge-judged.new.self c.args.packet c.judge-judged.result (c.judge-judged.ensures.judged c.args.packet admission).judgement c.requires.paired

pub end-served-requires-clause-begins : goal.end-served-requires-clause-begins
end-served-requires-clause-begins c =
    let admission = subst (λ (w : WindowsValue). IsAdmission c.in-Ok.admitted c.args.packet w) c.requires.windows c.in-Ok.ensures.0 in
    prefix_same c.judge-judged.new.self.programs c.args.programs.now (sym (c.judge-judged.ensures.judged c.args.packet admission).knows)
