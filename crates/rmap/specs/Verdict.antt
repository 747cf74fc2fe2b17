-- What an application says of a command that asks for authorisation (ECSS-E-ST-50-52C, write action, read action and
-- read-modify-write action, authorisation request; error and status codes).
use Rattle.std.specs.Prelude.{ℕ, ◌==◌, if◌then◌else◌}
use Rattle.rmap.specs.declared.status.Status.{Status}
use Rattle.rmap.specs.declared.status.Status.TheVariants as statuses
use Rattle.rmap.specs.declared.verdict.Verdict.{Verdict}
use Rattle.rmap.specs.declared.verdict.Verdict.TheVariants.{Authorised, InvalidKey, NotAuthorised}
use Rattle.rmap.specs.declared.verdict.Verdict.TheVariants.{InvalidLogicalAddress}
use Rattle.rmap.specs.Codes.{status_code}

-- the verdict of a word: 0 is authorised, 3 and 12 are statuses of their own, and any other word is not authorised
abbrev pub verdict_of : ℕ → Verdict
verdict_of word =
    if word == 0 then Authorised
    else if word == 3 then InvalidKey
    else if word == 12 then InvalidLogicalAddress
    else NotAuthorised

-- the status of a command with that verdict, success if nothing else stops it (ECSS-E-ST-50-52C, error and status
-- codes)
abbrev pub verdict_status : Verdict → Status
verdict_status Authorised = statuses.Success
verdict_status InvalidKey = statuses.InvalidKey
verdict_status NotAuthorised = statuses.NotAuthorised
verdict_status InvalidLogicalAddress = statuses.InvalidLogicalAddress

-- the number of a verdict: that of its status
abbrev pub verdict_number : Verdict → ℕ
verdict_number verdict = status_code (verdict_status verdict)
