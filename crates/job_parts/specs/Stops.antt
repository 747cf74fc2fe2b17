-- What ends a job before its end.
use Rattle.std.specs.Prelude.{ℕ}
use Rattle.job_parts.specs.declared.faults.Fault.{Fault}
use Rattle.job_parts.specs.declared.faults.Fault.TheVariants.{NoMemory, BadLine}
use Rattle.job_parts.specs.declared.stops.JobStop.{JobStop}
use Rattle.job_parts.specs.declared.stops.JobStop.TheVariants.{Ended, Unwritten}
use Rattle.job_parts.specs.declared.stops.LineEnd.{LineEnd}
use Rattle.job_parts.specs.declared.stops.LineEnd.TheVariants.{Bad, NoMemory as OutOfMemory}
use Rattle.job_parts.specs.declared.stops.LineStop.{LineStop}
use Rattle.job_parts.specs.declared.stops.LineStop.TheVariants.{Ended as EndedAt, Unwritten as UnwrittenAt}

-- the writer, or a fault of this kind
abbrev pub StopsBy : (Fault → Type 0) → JobStop → Type 0
StopsBy IsFault (Ended fault) = IsFault fault
StopsBy IsFault (Unwritten refused) = Unit {0}

-- the fault of a job that ends so at the line of that number
abbrev pub fault_at : (number : ℕ) → LineEnd → Fault
fault_at number (Bad fault) = BadLine number fault
fault_at number OutOfMemory = NoMemory

-- why a job stops that stops so at the line of that number
abbrev pub halt_at : (number : ℕ) → LineStop → JobStop
halt_at number (EndedAt end) = Ended (fault_at number end)
halt_at number (UnwrittenAt refused) = Unwritten refused

-- the writer, or an end at a line of this kind
abbrev pub StopsLineBy : (LineEnd → Type 0) → LineStop → Type 0
StopsLineBy IsEnd (EndedAt end) = IsEnd end
StopsLineBy IsEnd (UnwrittenAt refused) = Unit {0}
