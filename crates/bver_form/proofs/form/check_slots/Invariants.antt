use Rattle.std.proofs.Common.{ℕ, ◌<◌}
use Rattle.bver_form.specs.Form.{IsAllowedAt, insn_at}
use Rattle.bver_form.proofs.form.check_slots.Given as goal

abbrev pub invariant-loop-slot : goal.invariant-loop-slot
invariant-loop-slot l = (slot : ℕ) → slot < l.slot-counter → IsAllowedAt l.image slot (insn_at l.image slot)
