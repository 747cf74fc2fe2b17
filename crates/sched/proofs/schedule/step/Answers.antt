use Rattle.std.proofs.Common.{arith}
use Rattle.sched.proofs.Events.{nowhere}
use Rattle.sched.proofs.schedule.step.Goals as goal

pub returns-then-port-ports-clause-goes_on : goal.returns-then-port-ports-clause-goes_on
returns-then-port-ports-clause-goes_on c =
    nowhere c.args.world.now c.args.event (omega (arith, c.if-port-ports.true, c.port.ensures, c.ports.ensures.value))
