use Rattle.rcrc.proofs.LaneLemmas.{HaveCrc-bytes}
use Rattle.rcrc.proofs.lanes.pairs_of.Goals as goal

pub returns : goal.returns
returns c = HaveCrc-bytes c.args.bytes c.fits-bytes.0 c.fits-bytes.1
