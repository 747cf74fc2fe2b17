use Rattle.rcrc.proofs.LaneLemmas.{lanes_are}
use Rattle.rcrc.proofs.lanes.stepped.Goals as goal

pub returns : goal.returns
returns c = lanes_are 8 c.args.before c.args.first c.args.second c.args.third c.args.fourth c.fits-before.0
