use Rattle.bver_form.specs.Targets.{IsNumbering}
use Rattle.bver_form.proofs.targets.number_slots.Given as goal

abbrev pub invariant-loop-slot : goal.invariant-loop-slot
invariant-loop-slot l = IsNumbering l.kept.items l.places.items l.count l.slot
