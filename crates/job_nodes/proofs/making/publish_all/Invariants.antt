use Rattle.std.proofs.Common.{◌≡◌, take}
use Rattle.job_nodes.specs.Making.{with_publishes}
use Rattle.job_nodes.proofs.making.publish_all.Given as goal

abbrev pub invariant-loop-index : goal.invariant-loop-index
invariant-loop-index l = l.node ≡ with_publishes l.fn.node (take l.index l.publishes)
