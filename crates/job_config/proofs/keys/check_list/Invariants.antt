use Rattle.std.proofs.Common.{◌≡◌, drop}
use Rattle.toml.specs.View.{items_view}
use Rattle.job_config.specs.Configured.{unknown_among}
use Rattle.job_config.proofs.keys.check_list.Given as goal

abbrev pub invariant-loop-item : goal.invariant-loop-item
invariant-loop-item l =
    (l.number ≡ l.item-index)
    × (unknown_among l.kind l.number (items_view (drop l.item-index l.list)) ≡ unknown_among l.kind 0 (items_view l.list))
