use Rattle.job_parts.proofs.HexLanes.{lanes_are}
use Rattle.job_parts.proofs.hex_blocks.digits.Goals as goal

pub returns : goal.returns
returns c = lanes_are 16 c.args.numbers c.fits-numbers.0 c.requires
