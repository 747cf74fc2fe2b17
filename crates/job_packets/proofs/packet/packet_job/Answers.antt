use Rattle.job_packets.proofs.NoOrders.{refuses}
use Rattle.job_packets.proofs.packet.packet_job.Goals as goal

pub returns-in-Err-clause-err : goal.returns-in-Err-clause-err
returns-in-Err-clause-err c = rw c.usage.ensures (refuses _ _ c.in-Err.ensures.err)
