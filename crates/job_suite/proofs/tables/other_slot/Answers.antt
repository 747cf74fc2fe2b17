use Rattle.std.proofs.Common.{rules}
use Rattle.std.proofs.lemmas.List.Elements.{All-more}
use Rattle.job_suite.specs.Tables.{IsSlotImage}
use Rattle.job_suite.proofs.tables.other_slot.Goals as goal

pub loop-slot-preserved : goal.loop-slot-preserved
loop-slot-preserved c =
    All-more (IsSlotImage c.args.judges.now c.args.image.now) c.args.slots.now c.loop-slot.slot-index 0 c.loop-slot-test.true c.loop-slot.invariant
    (search rules)
