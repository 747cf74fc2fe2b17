use Rattle.std.proofs.Common.{rules, ◌≡◌, ◌<◌, ◌≤◌, ◌∙◌, arith, length, length-set}
use Rattle.bver_form.proofs.Reported.{reported_next}
use Rattle.bver_form.proofs.facts.write_slots.Goals as goal

pub loop-slot-preserved : goal.loop-slot-preserved
loop-slot-preserved c =
    let p = c.args.image.now in
    let slot = c.loop-slot.slot in
    let most : length p.slots ≤ 512 = c.slots-slot-end.ensures.program.slots.1 in
    let inside : slot < length c.loop-slot.facts = omega (arith, c.loop-slot-test.true, c.slots-slot-end.ensures.value, most, c.loop-slot.invariant.size) in
    let place : c.from.result ≡ slot = search rules in
    record {
      size = length-set _ _ _ ∙ c.loop-slot.invariant.size;
      reported = reported_next p c.loop-slot.facts slot c.from.result c.at.result place inside c.loop-slot.invariant.reported c.at.ensures;
    }
