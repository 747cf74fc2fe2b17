use Rattle.std.proofs.Common.{◌+◌, ◌<◌, ◌≤◌, length}
use Rattle.bpf.specs.Program.{Program}
use Rattle.bver_form.specs.Facts.{AreFacts}
use Rattle.bver_pass.proofs.Masks.{IsWrittenSoFar}
use Rattle.bver_pass.proofs.written.Written.by_loop.Given as goal

abbrev pub invariant-loop-slot : goal.invariant-loop-slot
invariant-loop-slot l = record {
  so_far : (p : Program) → AreFacts p l.facts → l.declared.back < length p.slots → IsWrittenSoFar p l.declared l.slot l.written;
  near : l.slot ≤ l.declared.back + 1;
}
