use Rattle.std.proofs.Common.{◌<◌, length, subst, sym}
use Rattle.single_node.specs.Nodes.{SingleNodeValue}
use Rattle.job_live.specs.Answering.{is_inside}
use Rattle.job_nodes.proofs.Banks.{covered_bank}
use Rattle.job_live.proofs.answering.set_bytes.Goals as goal

pub print_bank-requires : goal.print_bank-requires
unfolding is_inside
print_bank-requires g c =
    subst (λ (n : SingleNodeValue). c.args.setting.now.extended < length n.banks) (sym c.single.ensures)
    (covered_bank c.args.node.now.node.banks c.args.setting.now.extended _ _ c.requires)
