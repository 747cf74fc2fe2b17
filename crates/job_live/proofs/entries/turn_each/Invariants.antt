use Rattle.std.proofs.Common.{◌≡◌, length}
use Rattle.job_live.specs.Entries.{TurnsLeft}
use Rattle.job_live.proofs.entries.turn_each.Given as goal

abbrev pub invariant-loop-bank : goal.invariant-loop-bank
invariant-loop-bank l = TurnsLeft l.bank l.fn.node l.node × (length l.node.node.banks ≡ length l.fn.node.node.banks)
