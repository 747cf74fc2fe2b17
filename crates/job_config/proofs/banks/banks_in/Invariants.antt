use Rattle.std.proofs.Common.{◌≡◌, [], drop, length, true}
use Rattle.std.specs.List.{list_all}
use Rattle.node_parts.specs.Nodes.{is_within}
use Rattle.toml.specs.View.{items_view}
use Rattle.job_config.specs.Configured.{each, next_bank}
use Rattle.job_config.proofs.banks.banks_in.Given as goal

abbrev pub invariant-loop-item : goal.invariant-loop-item
invariant-loop-item l =
    (each next_bank l.banks.items (items_view (drop l.item-index l.list)) ≡ each next_bank [] (items_view l.list))
    × (length l.banks.items ≡ l.item-index) × (list_all is_within l.banks.items ≡ true)
