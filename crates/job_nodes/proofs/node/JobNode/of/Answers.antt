use Rattle.job_nodes.proofs.Made.{filled_each, filled_few}
use Rattle.job_nodes.proofs.node.JobNode.of.Goals as goal

pub publish_all-requires-clause-each : goal.publish_all-requires-clause-each
publish_all-requires-clause-each c =
    filled_each c.args.own.now c.args.program c.in_ok-node.node _ c.in_ok-node.ensures c.requires c.publishes.ensures.publishes
    c.publishes.ensures.each

pub publish_all-requires-clause-few : goal.publish_all-requires-clause-few
publish_all-requires-clause-few c =
    filled_few c.args.own.now c.args.program c.in_ok-node.node _ c.in_ok-node.ensures c.publishes.ensures.publishes
    c.publishes.ensures.few
