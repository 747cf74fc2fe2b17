use Rattle.std.proofs.Common.{◌≡◌, length}
use Rattle.bver_form.proofs.Kept.{AreMarked}
use Rattle.bver_form.proofs.targets.kept_slots.Given as goal

abbrev pub invariant-loop-slot : goal.invariant-loop-slot
invariant-loop-slot l = AreMarked l.image l.kept.items l.slot × (length l.kept.items ≡ length l.image.slots)
