-- What `show` prints of lines that come one by one. What it says of a line is left open.
use Rattle.std.specs.Prelude.{◌≡◌, ◌⊎◌, ℕ, zero, suc, Bool, true, false, List, codes, Some, None}
use Rattle.std.specs.Borrow.{Bor}
use Rattle.spw.specs.Line.{words_of}
use Rattle.spw.specs.declared.faults.LineFault.{LineFault}
use Rattle.job_live.specs.LiveJob.{most_lines}
use Rattle.job_live.specs.Talking.{ComesLine, Misses, Sends}
use Rattle.job_parts.specs.Printed.{job_fault_line}
use Rattle.job_parts.specs.declared.bad_lines.BadLine.TheVariants.{Line}
use Rattle.job_parts.specs.declared.faults.Fault.{Fault}
use Rattle.job_parts.specs.declared.faults.Fault.TheVariants.{BadLine, CannotRead}
use Rattle.job_parts.specs.declared.status.ExitStatus.{ExitStatus}
use Rattle.job_parts.specs.declared.status.ExitStatus.TheVariants.{Done, Failed, Misused}
use Rattle.job_parts.specs.declared.stops.JobStop.{JobStop}
use Rattle.job_parts.specs.declared.stops.JobStop.TheVariants.{Ended, Unwritten}
use Rattle.job_parts.specs.declared.stops.WriteFault.{WriteFault}
use Rattle.job_show.specs.ShownLines.{EndsLine, IsLineFault}

module _ {T : Type 0} (received : ComesLine T) (sent : Sends T) where
  -- a line came, and a line was sent of it
  pub record ShowsNext (start stop : T) : Type 0 where
    pub line : List ℕ
    pub heard : T
    pub text : List ℕ
    pub is_line : EndsLine text
    pub line_received : received start (Some line) heard
    pub left : sent heard text stop

  -- this many lines came, and of each a line was sent before the next was asked for
  abbrev pub Shows : (count : ℕ) → (start stop : T) → Type 0
  Shows zero start stop = stop ≡ start
  Shows (suc count) start stop = (between : T) × Shows count start between × ShowsNext between stop

  -- no line came any more, or one came and its line was sent
  abbrev pub ShowsOne : (was_given : Bool) → (start stop : T) → Type 0
  ShowsOne false start stop = received start None stop
  ShowsOne true start stop = ShowsNext start stop

  -- the lines of all were sent. After them no more came, or more than are counted
  pub record IsShown (start stop : T) : Type 0 where
    pub count : ℕ
    pub last : T
    pub shows : Shows count start last
    pub ended : received last None stop ⊎ ((stop ≡ last) × (count ≡ most_lines))

module _ {T : Type 0} (received : ComesLine T) (sent unsent : Sends T) (missed : Misses T) where
  -- a line came, and its text could not be sent
  pub record LosesText (start stop : T) : Type 0 where
    pub line : List ℕ
    pub heard : T
    pub text : List ℕ
    pub is_line : EndsLine text
    pub line_received : received start (Some line) heard
    pub lost : unsent heard text stop

  -- a line came, and has that fault, or memory was refused to it
  pub record HearsBad (bad : LineFault) (start stop : T) : Type 0 where
    pub line : List ℕ
    pub line_received : received start (Some line) stop
    pub is_bad : IsLineFault line (words_of line) bad

  -- why nothing was sent of the line of this number: it could not be read; it came, and is bad; or its text could not
  -- be sent
  abbrev pub IsUnreported : (number : ℕ) → (start stop : T) → JobStop → Type 0
  IsUnreported number start stop (Ended fault) =
      ((file : Bor (List ℕ)) × (fault ≡ CannotRead file) × (file.now ≡ codes "-") × missed start stop)
      ⊎ ((bad : LineFault) × (fault ≡ BadLine number (Line bad)) × HearsBad bad start stop)
  IsUnreported number start stop (Unwritten refused) = LosesText start stop

  -- the lines of some were sent, and then that of the next was not
  pub record BreaksShow (start stop : T) (halt : JobStop) : Type 0 where
    pub count : ℕ
    pub last : T
    pub shows : Shows received sent count start last
    pub unreported : IsUnreported (suc count) last stop halt

  -- a fault ended it, and its line was sent last
  pub record SendsFaultLast (start stop : T) : Type 0 where
    pub fault : Fault
    pub broken : T
    pub ended : BreaksShow start broken (Ended fault)
    pub reported : sent broken (job_fault_line fault) stop

  -- a fault ended it, and its line could not be sent, or memory was refused to it
  pub record LosesLast (start stop : T) : Type 0 where
    pub fault : Fault
    pub broken : T
    pub ended : BreaksShow start broken (Ended fault)
    pub lost : unsent broken (job_fault_line fault) stop ⊎ (stop ≡ broken)

  -- the exit status is 0 if all lines were printed, and 1 if a fault ended it
  abbrev pub ShowsTalk : (start stop : T) → ExitStatus → Type 0
  ShowsTalk start stop Done = IsShown received sent start stop
  ShowsTalk start stop Failed = SendsFaultLast start stop
  ShowsTalk start stop Misused = ⊥

  -- the last text could not be sent: that of a line, or the line of a fault
  abbrev pub IsShownUnsent : (start stop : T) → WriteFault → Type 0
  IsShownUnsent start stop refused = BreaksShow start stop (Unwritten refused) ⊎ LosesLast start stop
