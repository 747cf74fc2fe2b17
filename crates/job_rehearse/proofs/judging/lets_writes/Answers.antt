use Rattle.std.proofs.Common.{subst}
use Rattle.initiator.specs.declared.requests.Request.{Request}
use Rattle.job_rehearse.specs.Judging.{LetsPacketPass}
use Rattle.job_rehearse.specs.Starts.{asked_so_far}
use Rattle.job_rehearse.proofs.judging.lets_writes.Goals as goal

pub returns-clause-passes : goal.returns-clause-passes
returns-clause-passes c = record {
  one = asked_so_far c.lets_part.new.cells;
  two = asked_so_far c.lets_part-2.new.cells;
  three = asked_so_far c.lets_part-3.new.cells;
  four = asked_so_far c.lets_part-4.new.cells;
  first = c.in_ok-first.first;
  second = c.in_ok-second.second;
  third = c.in_ok-third.third;
  fourth = c.in_ok-fourth.fourth;
  control = c.in_ok-control.control;
  first_is = c.in_ok-first.ensures.passes;
  second_is = c.in_ok-second.ensures.passes;
  third_is = c.in_ok-third.ensures.passes;
  fourth_is = c.in_ok-fourth.ensures.passes;
  control_is =
      subst (λ (r : Request). LetsPacketPass c.args.judge.now c.args.loader r c.in_ok-control.control (asked_so_far c.lets_part-4.new.cells) (asked_so_far c.lets_pass.new.cells))
      c.control_request.ensures.value c.in_ok-control.ensures.passes;
  passes_is = c.all_pass.ensures;
}
