use Rattle.std.proofs.Common.{rules, ◌≡◌, ◌<◌, ℕ, false, true, length, arith, ◌∙◌}
use Rattle.std.specs.Prelude.{slice_index_or}
use Rattle.std.proofs.Math.ListN.{length-set}
use Rattle.bver_form.proofs.Kept.{marked_first, marked_next}
use Rattle.bver_form.proofs.targets.kept_slots.Goals as goal

pub loop-slot-preserved : goal.loop-slot-preserved
loop-slot-preserved c =
    (marked_next c.args.image.now c.loop-slot.kept.items c.mark.new.kept.items c.loop-slot.slot c.loop-slot.invariant.0 c.mark.ensures.stays c.mark.ensures.marks c.mark.ensures.only, c.mark.ensures.size)

pub loop-slot-init : goal.loop-slot-init
loop-slot-init c =
    let items = c.in_ok-kept.kept.items in
    let size : length items ≡ length c.args.image.now.slots = search rules in
    let none : (k : ℕ) → slice_index_or items k false ≡ false = search rules in
    let some : 0 < length items = omega (arith, size, c.slots.ensures.program.slots.0) in
    (marked_first c.args.image.now items some none, length-set items 0 true ∙ size)
