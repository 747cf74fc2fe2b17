use Rattle.job_node_file.proofs.Sizes.{GoOn}
use Rattle.job_node_file.proofs.images.largest.Given as goal

abbrev pub invariant-loop-publish : goal.invariant-loop-publish
invariant-loop-publish l = GoOn l.program.program l.publishes l.publish-index l.most
