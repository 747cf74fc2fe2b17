-- What a scrub before a packet found, in numbers.
use Rattle.std.specs.Prelude.{ℕ, Option, None, Some}
use Rattle.scrub.specs.declared.guard.ScrubFindings.{ScrubFindings}
use Rattle.scrub.specs.declared.guard.Health.{Health}
use Rattle.scrub.specs.declared.guard.Health.TheVariants as health
use Rattle.single_node_c.specs.declared.findings.TheConstants.{MENDED, NO_SLOT, UNSCRUBBED, WHOLE, WITHDRAWN}

-- the number of how a program was found
abbrev pub health_number : Health → ℕ
health_number health.Whole = WHOLE
health_number health.Mended = MENDED
health_number health.Withdrawn = WITHDRAWN
health_number health.Unmended = WITHDRAWN

-- the number of what a scrub found, or that none was due
abbrev pub found_number : Option ScrubFindings → ℕ
found_number None = UNSCRUBBED
found_number (Some found) = health_number found.health

-- the slot that a scrub looked at, or that there is none
abbrev pub found_slot : Option ScrubFindings → ℕ
found_slot None = NO_SLOT
found_slot (Some found) = found.slot
