use Rattle.std.proofs.Common.{arith}
use Rattle.linking.proofs.Answering.{none_yet, goes_on, ends, counted_out}
use Rattle.linking.proofs.holding.hold.Goals as goal

pub loop-count-init : goal.loop-count-init
loop-count-init g c = none_yet _ _ _ _ _ _ _

pub loop-count-preserved : goal.loop-count-preserved
loop-count-preserved g c = goes_on _ _ _ _ _ _ _ _ _ _ _ _ _ _ _ c.loop-count.invariant c.in_ok-exchange.ensures.ok c.if-not-branch.false

pub returns-then-not-branch-clause-ok : goal.returns-then-not-branch-clause-ok
returns-then-not-branch-clause-ok g c = ends _ _ _ _ _ _ _ _ _ _ _ _ _ _ _ c.loop-count.invariant c.in_ok-exchange.ensures.ok c.if-not-branch.true

pub returns-clause-ok : goal.returns-clause-ok
returns-clause-ok g c = counted_out _ _ _ _ _ _ _ _ _ _ _ c.loop-count.invariant (omega arith)
