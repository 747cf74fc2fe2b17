use Rattle.std.proofs.Common.{arith}
use Rattle.bver_form.proofs.Kept.{numbered, numbering_none}
use Rattle.bver_form.proofs.targets.number_slots.Goals as goal

pub loop-slot-init : goal.loop-slot-init
loop-slot-init c = numbering_none c.args.kept.now.items c.args.places.now.items c.requires.size c.requires.nowhere

pub returns : goal.returns
returns c = numbered c.args.kept.now.items c.loop-slot.places.items c.loop-slot.count c.loop-slot.slot (omega arith) c.loop-slot.invariant
