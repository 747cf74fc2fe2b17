use Rattle.std.proofs.Common.{map}
use Rattle.job_packets.specs.Slots.{WriteSlots}
use Rattle.job_packets.proofs.numbers.listed_slots.Given as goal

abbrev pub invariant-loop-part : goal.invariant-loop-part
invariant-loop-part l = WriteSlots (map (λ part. part.now) l.yielded) l.slots.items
