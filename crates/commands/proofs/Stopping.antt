-- Two facts of the fault by which a job stops are one.
use Rattle.std.proofs.Common.{Result, Ok, Err, IfErr}
use Rattle.job_parts.specs.Stops.{StopsBy}
use Rattle.job_parts.specs.declared.faults.Fault.{Fault}
use Rattle.job_parts.specs.declared.stops.JobStop.{JobStop}
use Rattle.job_parts.specs.declared.stops.JobStop.TheVariants.{Ended, Unwritten}

pub stops_by_both : {T : Type 0} (result : Result T JobStop) (P Q : Fault → Type 0) → IfErr result (StopsBy P) → IfErr result (StopsBy Q) → IfErr result (StopsBy (λ fault. P fault × Q fault))
stops_by_both (Ok status) P Q one other = one
stops_by_both (Err (Ended fault)) P Q one other = (one, other)
stops_by_both (Err (Unwritten refused)) P Q one other = one
