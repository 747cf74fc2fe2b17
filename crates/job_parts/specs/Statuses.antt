-- Exit statuses.
use Rattle.std.specs.Prelude.{◌≡◌, ℕ}
use Rattle.job_parts.specs.declared.status.ExitStatus.{ExitStatus}
use Rattle.job_parts.specs.declared.status.ExitStatus.TheVariants.{Done, Failed, Misused}
use Rattle.job_parts.specs.declared.usage.UsageFault.{UsageFault}
use Rattle.job_parts.specs.declared.usage.UsageFault.TheVariants.{Parse, BadOption, Memory}

-- the exit status of a command line that names no job
abbrev pub usage_status : UsageFault → ℕ
usage_status (Parse text) = 2
usage_status BadOption = 2
usage_status Memory = 1

-- the number of an exit status
abbrev pub exit_code : ExitStatus → ℕ
exit_code Done = 0
exit_code Failed = 1
exit_code Misused = 2

-- the job was done, and this is so
abbrev pub IsDoneWith : Type 0 → ExitStatus → Type 0
IsDoneWith P status = (status ≡ Done) × P
