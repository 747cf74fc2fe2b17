use Rattle.std.proofs.Common.{All, take}
use Rattle.job_suite.specs.Tables.{IsSlotImage}
use Rattle.job_suite.proofs.tables.other_slot.Given as goal

abbrev pub invariant-loop-slot : goal.invariant-loop-slot
invariant-loop-slot l = All (IsSlotImage l.judges l.image) (take l.slot-index l.slots)
