use Rattle.std.proofs.Common.{arith}
use Rattle.job_charts.proofs.Addresses.{no_first, no_one, no_second}
use Rattle.job_charts.proofs.asking.addresses_written.Goals as goal

pub returns-in-None : goal.returns-in-None
returns-in-None c =
    no_one (λ part. part.now) c.args.parts.now _ (omega (arith, c.in-len1.len_at_least, c.in-len1.len_below)) c.in-None.ensures.writes

pub returns-in-None-hex_written-2 : goal.returns-in-None-hex_written-2
returns-in-None-hex_written-2 c =
    no_second (λ part. part.now) c.args.parts.now _ (omega (arith, c.in-len2.len_at_least, c.in-len2.len_below)) c.in-None-hex_written-2.ensures.writes

pub returns-in-None-hex_written : goal.returns-in-None-hex_written
returns-in-None-hex_written c =
    no_first (λ part. part.now) c.args.parts.now _ (omega (arith, c.in-len2.len_at_least, c.in-len2.len_below)) c.in-None-hex_written.ensures.writes
