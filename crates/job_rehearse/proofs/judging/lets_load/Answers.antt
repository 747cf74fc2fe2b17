use Rattle.std.proofs.Common.{List, subst}
use Rattle.machine.specs.Sizes.{Maps}
use Rattle.machine.specs.declared.calls.Call.{Call}
use Rattle.job_rehearse.specs.Judging.{LetsWrites}
use Rattle.job_rehearse.specs.Starts.{AreAnsweredFrom, asked_so_far}
use Rattle.job_rehearse.proofs.Starting.{answered_since, unasked}
use Rattle.job_rehearse.proofs.judging.lets_load.Goals as goal

pub returns : goal.returns
returns c =
    let begun = c.in_ok-cells.ensures in
    let after = c.lets_writes.new.cells in
    record {
      calls = asked_so_far after;
      writes = subst (λ (before : List Call). LetsWrites c.args.judge.now c.args.loader c.args.image.now c.in_ok-passes.passes before (asked_so_far after)) (unasked c.args.start c.sizes.result c.in_ok-cells.cells begun) c.in_ok-passes.ensures.passes;
      cells = subst (λ (s : Maps). AreAnsweredFrom c.args.start s (asked_so_far after)) c.sizes.ensures.value (answered_since c.args.start c.sizes.result c.in_ok-cells.cells after begun c.lets_writes.ensures.sizes c.lets_writes.ensures.home c.answer_in_order.ensures);
    }
