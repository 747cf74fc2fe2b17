use Rattle.std.proofs.Common.{◌∙◌}
use Rattle.job_parts.proofs.HexLanes.{block_text, each_fits, high_halves, low_halves}
use Rattle.job_parts.proofs.hex_blocks.block_digits.Goals as goal

pub digits-requires : goal.digits-requires
digits-requires c = high_halves 16 c.args.block.now c.told-block (each_fits c.args.block.now c.fits-block)

pub digits-requires-2 : goal.digits-requires-2
digits-requires-2 c = low_halves 16 c.args.block.now c.told-block (each_fits c.args.block.now c.fits-block)

pub returns : goal.returns
returns c = c.in_turn.ensures ∙ block_text c.args.block.now _ _ c.told-block (each_fits c.args.block.now c.fits-block) c.digits.ensures c.digits-2.ensures
