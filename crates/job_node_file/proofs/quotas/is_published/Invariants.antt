use Rattle.std.proofs.Common.{◌≡◌, drop}
use Rattle.job_node_file.specs.Quotas.{is_published as is_one}
use Rattle.job_node_file.proofs.quotas.is_published.Given as goal

abbrev pub invariant-loop-publish : goal.invariant-loop-publish
invariant-loop-publish l = is_one l.image (drop l.publish-index l.publishes) ≡ is_one l.image l.publishes
