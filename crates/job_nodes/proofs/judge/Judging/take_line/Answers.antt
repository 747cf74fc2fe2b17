use Rattle.std.proofs.Common.{subst, None}
use Rattle.job_nodes.specs.JobNode.{FeedsLine}
use Rattle.job_nodes.proofs.judge.Judging.take_line.Goals as goal

pub returns-in_default-clause-taken : goal.returns-in_default-clause-taken
returns-in_default-clause-taken c =
    let given = c.in_ok-port.ensures.fed in
    let is = c.in_default.is in
    subst (λ n. FeedsLine c.args.line.now None n c.feed_line.new.self) c.self.view_is (rw is at given)
