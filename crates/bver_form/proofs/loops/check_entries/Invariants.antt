use Rattle.std.proofs.Common.{ℕ, ◌<◌}
use Rattle.bver_form.specs.Loops.{EntersAllAtHeadFrom}
use Rattle.bver_form.proofs.loops.check_entries.Given as goal

abbrev pub invariant-loop-slot : goal.invariant-loop-slot
invariant-loop-slot l = (slot : ℕ) → slot < l.slot → EntersAllAtHeadFrom l.image slot
