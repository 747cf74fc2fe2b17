use Rattle.std.proofs.Common.{◌<◌, ◌+◌, length, refl, rules}
use Rattle.job_rehearse.proofs.Loading.{no_slot, slot_more}
use Rattle.job_rehearse.proofs.loads.are_loaded.Goals as goal

pub loop-slot-init : goal.loop-slot-init
loop-slot-init c =
    no_slot c.args.image.now (c.args.generation + 1) c.args.node.now.programs c.args.slots.now c.new-loaded.result.items c.new-loaded.ensures.items

pub loop-slot-preserved : goal.loop-slot-preserved
loop-slot-preserved c =
    let slots = c.args.slots.now in let k = c.loop-slot.slot-index in
    let below : k < length slots = search rules in
    slot_more c.args.image.now (c.args.generation + 1) c.args.node.now.programs slots k 0 _ _ _ _ below refl c.loop-slot.invariant c.in_ok-is_loaded.ensures c.in_ok-push.ensures.items
