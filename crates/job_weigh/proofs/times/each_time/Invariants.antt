use Rattle.std.proofs.Common.{◌≡◌, All, map, take}
use Rattle.job_weigh.specs.Times.{IsTimeIn, value_in}
use Rattle.job_weigh.proofs.times.each_time.Given as goal

abbrev pub invariant-loop-part : goal.invariant-loop-part
invariant-loop-part l =
    All (λ part. IsTimeIn l.unit part.now) (take l.part-index l.parts) × (l.times.items ≡ map (λ part. value_in l.unit part.now) (take l.part-index l.parts))
