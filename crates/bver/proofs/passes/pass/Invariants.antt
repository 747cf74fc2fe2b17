use Rattle.std.proofs.Common.{◌≡◌, length}
use Rattle.bver_form.specs.Lowered.{IsMore, IsSettled}
use Rattle.bver.proofs.Completing.{IsCompleting}
use Rattle.bver.proofs.Passing.{IsPassing}
use Rattle.bver.proofs.passes.pass.Given as goal

-- the slots so far were visited, with what is known in the table and of the running state
abbrev pub invariant-loop-slot : goal.invariant-loop-slot
invariant-loop-slot l =
    IsPassing l.image l.maps l.table l.runs l.state l.regions.items (IsSettled l.fn.lowered l.lowered) l.slot
    × (l.table.program ≡ l.image) × IsMore l.fn.lowered l.lowered × (length l.regions.items ≡ length l.image.slots)
    × IsCompleting l.image l.fn.lowered l.lowered l.table l.runs l.state l.slot
