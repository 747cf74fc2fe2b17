use Rattle.std.proofs.Common.{◌≡◌, subst}
use Rattle.scrub.specs.Guarded.{is_damaged}
use Rattle.job_nodes.specs.JobNode.{alone}
use Rattle.job_nodes.specs.LiveNodes.{LiveNodeValue}
use Rattle.job_nodes.proofs.live_node.LiveNode.is_damaged.Goals as goal

pub returns : goal.returns
returns c =
    subst (λ (live : LiveNodeValue). c.is_damaged.result ≡ is_damaged live.guard (alone live.node)) c.self.view_is c.is_damaged.ensures
