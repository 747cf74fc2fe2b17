use Rattle.std.proofs.Common.{◌≡◌, length}
use Rattle.job_nodes.specs.Making.{Fills}
use Rattle.job_nodes.proofs.making.fill.Given as goal

abbrev pub invariant-loop-bank : goal.invariant-loop-bank
invariant-loop-bank l = Fills l.contents l.bank l.fn.node l.node × (length l.node.banks ≡ length l.fn.node.banks)
