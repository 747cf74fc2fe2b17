-- What holds of justified programs.
use Rattle.std.specs.Prelude.{ℕ, List, Option}
use Rattle.bpf.specs.Program.{IsProgram, Program}
use Rattle.machine.specs.declared.regions.Region.{Region}
use Rattle.machine.specs.Sizes.{Maps}
use Rattle.machine.specs.Runs.{IsSafe}
use Rattle.absdom.specs.State.{StateValue}
use Rattle.bver_form.specs.Form.{IsFormed}
use Rattle.bver_form.specs.declared.refusal.Refused.{Refused}
use Rattle.bver_pass.specs.Justified.{IsJustified, IsJudged}
use Rattle.bver.specs.Costs.{IsSafeForCosts}
use Rattle.bver.specs.Resolved.{IsResolved}
use Rattle.bver.specs.Reported.{IsClosed, ReportsKnown}

-- a justified program is safe: no run of it traps, and each ends within the budget
abbrev pub JustifiedIsSafe : Type 0
JustifiedIsSafe = (program : Program) (maps : Maps) → IsJustified program maps → IsSafe program maps

-- and no path of it costs more than its weight, whatever each instruction costs
abbrev pub JustifiedIsSafeForCosts : Type 0
JustifiedIsSafeForCosts = (program : Program) (maps : Maps) → IsJustified program maps → IsSafeForCosts program

-- its regions are those of every access that a run makes
abbrev pub JudgedIsResolved : Type 0
JudgedIsResolved =
    (program : Program) (maps : Maps) (regions : List (Option Region)) → IsJudged program maps regions
    → IsResolved program regions

-- a program that such a state refutes is not justified
abbrev pub ReportedIsUnjustified : Type 0
ReportedIsUnjustified =
    (program : Program) (maps : Maps) (a : StateValue) (refused : Refused) → ReportsKnown program maps a refused
    → IsJustified program maps → ⊥

-- something is closed of each program that has its form: so what must be assumed of it says something
abbrev pub SomethingIsClosed : Type 0
SomethingIsClosed =
    (program : Program) → IsProgram program → IsFormed program
    → (comes : ℕ → Option StateValue) × (stands : ℕ → Option StateValue) × IsClosed program comes stands
