use Rattle.std.proofs.Common.{◌≡◌, length}
use Rattle.bver_form.proofs.Reported.{AreReportedBefore}
use Rattle.bver_form.proofs.facts.write_slots.Given as goal

abbrev pub invariant-loop-slot : goal.invariant-loop-slot
invariant-loop-slot l = record {
  size : length l.facts ≡ 512;
  reported : AreReportedBefore l.image l.facts l.slot;
}
