use Rattle.std.proofs.Common.{ℕ, ◌<◌}
use Rattle.bver_form.specs.Loops.{EntersAtHeadFrom}
use Rattle.bver_form.proofs.loops.check_entry.Given as goal

abbrev pub invariant-loop-slot : goal.invariant-loop-slot
invariant-loop-slot l = (slot : ℕ) → slot < l.slot → EntersAtHeadFrom l.image l.declared slot
