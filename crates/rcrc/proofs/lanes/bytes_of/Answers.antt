use Rattle.rcrc.proofs.LaneLemmas.{crc_of-pairs}
use Rattle.rcrc.proofs.lanes.bytes_of.Goals as goal

pub returns : goal.returns
returns c = crc_of-pairs c.args.pairs c.fits-pairs.0 c.fits-pairs.1
