use Rattle.std.proofs.Common.{◌+◌, ◌<◌, ◌≤◌, length}
use Rattle.bpf.specs.Program.{Program}
use Rattle.bver_form.specs.Facts.{AreFacts}
use Rattle.bver_form.proofs.Reported.{LeaveBefore}
use Rattle.bver_form.proofs.loops.check_counter.Given as goal

abbrev pub invariant-loop-slot : goal.invariant-loop-slot
invariant-loop-slot l = record {
  leaves : (p : Program) → AreFacts p l.facts → l.declared.back < length p.slots → LeaveBefore p l.declared l.slot;
  near : l.slot ≤ l.declared.back + 1;
}
