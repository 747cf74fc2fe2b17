use Rattle.std.proofs.Common.{◌<◌, length, subst, rules}
use Rattle.bpf.specs.Program.{Program}
use Rattle.job_node_file.specs.Images.{IsSizeOf}
use Rattle.job_node_file.proofs.Sizes.{begins, ends, goes_on}
use Rattle.job_node_file.proofs.images.largest.Goals as goal

pub loop-publish-init : goal.loop-publish-init
loop-publish-init c =
    begins c.args.program.now.program c.args.publishes.now c.in_ok-most.most
    (subst (λ (p : Program). IsSizeOf p c.in_ok-most.most) c.image.ensures.value c.in_ok-most.ensures)

pub loop-publish-preserved : goal.loop-publish-preserved
loop-publish-preserved c =
    let below : c.loop-publish.publish-index < length c.args.publishes.now = search rules in
    goes_on c.args.program.now.program c.args.publishes.now c.loop-publish.publish-index c.loop-publish.most c.in_ok-size.size _ _ _ below c.publish-item.is c.in_ok-size.ensures c.with-most.ensures c.loop-publish.invariant

pub returns : goal.returns
returns c =
    ends c.args.program.now.program c.args.publishes.now c.loop-publish.publish-index c.loop-publish.most (search rules) c.loop-publish.invariant
