use Rattle.std.proofs.Common.{arith}
use Rattle.rcrc.proofs.LaneLemmas.{step_back}
use Rattle.rcrc.proofs.lanes.one_step_before.Goals as goal

pub returns-else-crc-lt128 : goal.returns-else-crc-lt128
returns-else-crc-lt128 c = step_back c.args.crc (omega arith) (omega arith)
