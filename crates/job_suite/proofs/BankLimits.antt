-- How many banks a node has.
use Rattle.std.proofs.Common.{◌≡◌, ◌≤◌, List, Bool, true, false, length, refl}
use Rattle.std.specs.Prelude.{◌&&◌, nat_le}
use Rattle.std.specs.List.{list_all}
use Rattle.std.proofs.lemmas.Bool.{leb-true, and_parts}
use Rattle.node_parts.specs.Nodes.{are_within, is_within}
use Rattle.node_parts.specs.declared.config.BankConfig.{BankConfig}

-- banks that a node may have are at most eight
pub at_most_eight : (banks : List BankConfig) → are_within banks ≡ true → length banks ≤ 8
at_most_eight banks h =
    leb-true (length banks) 8 (and_parts (nat_le 1 (length banks)) _ (and_parts _ (list_all is_within banks) h).0).1
