use Rattle.std.proofs.Common.{ap, ◌∙◌}
use Rattle.std.specs.Prelude.{slice_get}
use Rattle.job_nodes.specs.JobNode.{JobNodeValue, is_full}
use Rattle.job_nodes.proofs.node.JobNode.is_full.Goals as goal

pub returns : goal.returns
returns c = c.is_full.ensures ∙ ap (λ (x : JobNodeValue). is_full (slice_get x.banks c.args.bank)) c.self.view_is
