use Rattle.std.proofs.Common.{◌≡◌, ◌++◌, drop, string_bytes}
use Rattle.std.specs.List.{flat_map}
use Rattle.job_texts.specs.Needed.{next_map_text}
use Rattle.job_texts.proofs.needed.add_next_maps.Given as goal

abbrev pub invariant-loop-map : goal.invariant-loop-map
invariant-loop-map l =
    string_bytes l.text ++ flat_map next_map_text (drop l.map-index l.maps) ≡ string_bytes l.initial.text ++ flat_map next_map_text l.maps
