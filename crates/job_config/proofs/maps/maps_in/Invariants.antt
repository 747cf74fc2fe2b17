use Rattle.std.proofs.Common.{◌≡◌, ◌≤◌, ◌+◌, [], All, drop, length, map}
use Rattle.std.specs.Prelude.{sum}
use Rattle.toml.specs.View.{items_view}
use Rattle.job_config.specs.Configured.{each, next_map}
use Rattle.job_config.proofs.maps.maps_in.Given as goal

abbrev pub invariant-loop-item : goal.invariant-loop-item
invariant-loop-item l =
    (each next_map l.maps.items (items_view (drop l.item-index l.list)) ≡ each next_map [] (items_view l.list))
    × (length l.maps.items ≡ l.item-index) × All (λ m. 1 ≤ m.0) l.maps.items
    × (l.left + sum (map (λ m. m.0) l.maps.items) ≡ 256)
