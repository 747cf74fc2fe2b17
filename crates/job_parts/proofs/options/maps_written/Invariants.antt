use Rattle.std.proofs.Common.{◌≡◌, All, map, take}
use Rattle.job_parts.specs.Options.{IsMapPart, map_of_part}
use Rattle.job_parts.proofs.options.maps_written.Given as goal

abbrev pub invariant-loop-part : goal.invariant-loop-part
invariant-loop-part l =
    All (λ part. IsMapPart part.now) (take l.part-index l.parts) × (l.maps.items ≡ map (λ part. map_of_part part.now) (take l.part-index l.parts))
