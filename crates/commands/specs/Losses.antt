-- How the program ends if standard output or standard error did not take all.
use Rattle.std.specs.Prelude.{◌++◌, ℕ, List, codes, decimal, Result, Ok, Err}
use Rattle.job_parts.specs.declared.status.ExitStatus.{ExitStatus}
use Rattle.job_parts.specs.declared.status.ExitStatus.TheVariants.{Failed}
use Rattle.job_parts.specs.declared.stops.WriteFault.{WriteFault}

-- how the program ends, which ends with this status if all of it was written
abbrev pub end_if_written : {A E : Type 0} → Result A E → ExitStatus → ExitStatus
end_if_written (Ok written) status = status
end_if_written (Err refused) status = Failed

-- how a talk ends that was held with this status, or whose last text could not be sent
abbrev pub end_of : Result ExitStatus WriteFault → ExitStatus
end_of (Ok status) = status
end_of (Err refused) = Failed

-- what is printed of that many texts
abbrev pub unreported_text : ℕ → List ℕ
unreported_text count = codes "texts that standard error did not take: " ++ decimal count
