use Rattle.std.proofs.Common.{arith}
use Rattle.job_live.proofs.PutText.{one_digit, three_digits, two_digits}
use Rattle.job_live.proofs.putting.put_port.Goals as goal

pub returns-then-port-lt10-clause-items : goal.returns-then-port-lt10-clause-items
returns-then-port-lt10-clause-items c = one_digit _ _ c.args.port (omega (arith, c.if-port-lt10.true)) c.put.ensures.items

pub returns-then-port-lt100-clause-items : goal.returns-then-port-lt100-clause-items
returns-then-port-lt100-clause-items c =
    two_digits _ _ c.args.port (omega (arith, c.if-port-lt10.false)) (omega (arith, c.if-port-lt100.true)) c.put-then-port-lt100.ensures.items

pub returns-else-port-lt100-clause-items : goal.returns-else-port-lt100-clause-items
returns-else-port-lt100-clause-items c =
    three_digits _ _ c.args.port (omega (arith, c.if-port-lt100.false)) (omega (arith, c.ranges.port.fits)) c.put-else-port-lt100.ensures.items
