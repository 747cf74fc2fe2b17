use Rattle.std.proofs.Common.{◌<◌, length, arith, rules}
use Rattle.job_live.proofs.PutText.{more_put, none_put}
use Rattle.job_live.proofs.putting.put_hex.Goals as goal

pub loop-byte-init : goal.loop-byte-init
loop-byte-init c = (none_put _, omega arith, omega arith)

pub loop-byte-preserved : goal.loop-byte-preserved
loop-byte-preserved c =
    let below : c.loop-byte.byte-index < length c.args.bytes.now = search rules in (
      more_put _ _ _ c.args.bytes.now _ c.loop-byte.byte-index below c.loop-byte.invariant.0 c.digits_of.ensures c.put.ensures.items,
      omega (arith, c.loop-byte.invariant.1, c.put.ensures.len),
      omega (arith, c.loop-byte.invariant.2, c.put.ensures.room),
    )
