-- What a packet comes to at a node, and what its row wants.
use Rattle.std.specs.Prelude.{◌≡◌, ℕ, Option, Some, None}
use Rattle.rmap.specs.declared.status.Status.{Status}
use Rattle.job_suite.specs.declared.checks.Check.{Check}
use Rattle.job_suite.specs.declared.comings.PacketOutcome.{PacketOutcome}
use Rattle.job_suite.specs.declared.comings.PacketOutcome.TheVariants as comings
use Rattle.job_suite.specs.declared.rows.Wanted.{Wanted}
use Rattle.job_suite.specs.declared.rows.Wanted.TheVariants.{Stopped, Brought, Judged, Spoilt, Whole}

-- the first line of the order of checks that holds is the one that is wanted
abbrev pub FitsStopped : Check → Wanted → Type 0
FitsStopped check (Stopped line) = check ≡ line
FitsStopped check Brought = ⊥
FitsStopped check (Judged number) = ⊥
FitsStopped check (Spoilt status) = ⊥
FitsStopped check Whole = ⊥

-- the verdict of a program is the one that is wanted. Or it lets pass, and the first check of the body that holds is
-- the one that is wanted, or none holds
abbrev pub FitsJudged : (verdict : ℕ) → (fault : Option Status) → Wanted → Type 0
FitsJudged verdict fault (Stopped line) = ⊥
FitsJudged verdict fault Brought = Unit {0}
FitsJudged verdict fault (Judged number) = verdict ≡ number
FitsJudged verdict fault (Spoilt status) = (verdict ≡ 0) × (fault ≡ Some status)
FitsJudged verdict fault Whole = (verdict ≡ 0) × (fault ≡ None)

-- what a packet comes to is what is wanted
abbrev pub FitsWanted : PacketOutcome → Wanted → Type 0
FitsWanted (comings.Stopped check) wanted = FitsStopped check wanted
FitsWanted (comings.Judged verdict fault) wanted = FitsJudged verdict fault wanted
