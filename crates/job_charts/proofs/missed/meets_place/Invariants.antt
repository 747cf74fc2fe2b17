use Rattle.job_charts.specs.Missed.{MissesPlaces}
use Rattle.job_charts.proofs.missed.meets_place.Given as goal

abbrev pub invariant-loop-number : goal.invariant-loop-number
invariant-loop-number l = MissesPlaces l.rules l.places l.number
