use Rattle.std.proofs.Common.{arith}
use Rattle.bver_form.proofs.Reported.{leave_none}
use Rattle.bver_form.proofs.loops.check_counter.Goals as goal

pub loop-slot-init : goal.loop-slot-init
loop-slot-init c = record {
  leaves = λ p facts within. leave_none p c.args.declared.now;
  near = omega (arith, c.requires.ordered);
}
