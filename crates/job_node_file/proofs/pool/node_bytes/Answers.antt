use Rattle.std.proofs.Common.{◌≤◌, List, length, subst, sym}
use Rattle.node_parts.specs.declared.config.BankConfig.{BankConfig}
use Rattle.job_node_file.proofs.Sizes.{at_most_eight}
use Rattle.job_node_file.proofs.pool.node_bytes.Goals as goal

pub banks_units-requires : goal.banks_units-requires
banks_units-requires c =
    subst (λ (l : List BankConfig). length l ≤ 8) (sym c.banks-banks.ensures.banks) (at_most_eight c.args.node.now.banks c.banks-banks.ensures.within)
