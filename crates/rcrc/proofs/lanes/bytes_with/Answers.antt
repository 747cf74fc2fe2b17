use Rattle.std.proofs.Common.{arith, ◌∙◌}
use Rattle.rcrc.proofs.LaneLemmas.{crc_of-alone}
use Rattle.rcrc.proofs.lanes.bytes_with.Goals as goal

pub returns : goal.returns
returns c = crc_of-alone c.one_step_before.result (omega arith) ∙ c.one_step_before.ensures
