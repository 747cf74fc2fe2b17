use Rattle.std.proofs.Common.{◌++◌, length-append, arith}
use Rattle.spw.proofs.BlockLanes.{odds_picked}
use Rattle.spw.proofs.blocks.lows.Goals as goal

pub returns : goal.returns
returns c = odds_picked (c.args.first ++ c.args.second) (omega (arith, length-append c.args.first c.args.second, c.fits-first.0, c.fits-second.0))
