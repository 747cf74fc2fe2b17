use Rattle.std.proofs.Common.{◌≡◌, length}
use Rattle.job_live.specs.Journals.{TurnsJournals}
use Rattle.job_live.proofs.journals.turn_journals.Given as goal

abbrev pub invariant-loop-bank : goal.invariant-loop-bank
invariant-loop-bank l = TurnsJournals l.each l.bank l.fn.node l.node × (length l.node.node.banks ≡ length l.fn.node.node.banks)
