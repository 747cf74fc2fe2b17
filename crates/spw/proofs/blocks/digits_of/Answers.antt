use Rattle.spw.proofs.BlockLanes.{lanes_read}
use Rattle.spw.proofs.blocks.digits_of.Goals as goal

pub returns : goal.returns
returns c = lanes_read 16 c.args.characters c.fits-characters.0 c.fits-characters.1
