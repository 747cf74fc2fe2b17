use Rattle.job_parts.proofs.HexLanes.{turns_picked}
use Rattle.job_parts.proofs.hex_blocks.in_turn.Goals as goal

pub returns : goal.returns
returns c = turns_picked c.args.first c.args.second c.fits-first.0 c.fits-second.0
