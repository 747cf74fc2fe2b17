use Rattle.std.proofs.Common.{ap, ◌∙◌}
use Rattle.std.specs.Prelude.{slice_get}
use Rattle.job_nodes.specs.JobNode.{JobNodeValue, first_address_of}
use Rattle.job_nodes.proofs.node.JobNode.first.Goals as goal

pub returns : goal.returns
returns c = c.first.ensures ∙ ap (λ (x : JobNodeValue). first_address_of (slice_get x.banks c.args.bank)) c.self.view_is
