use Rattle.spw.proofs.BlockLanes.{block_marked, block_written}
use Rattle.spw.proofs.blocks.block_bytes.Goals as goal

pub returns-then-high-low-ne0 : goal.returns-then-high-low-ne0
returns-then-high-low-ne0 c =
    block_marked c.args.block.now _ _ _ _ c.told-block c.digits_of-high.ensures c.digits_of-low.ensures c.highs.ensures c.lows.ensures c.if-high-low-ne0.true

pub returns : goal.returns
returns c =
    block_written c.args.block.now _ _ _ _ c.told-block c.digits_of-high.ensures c.digits_of-low.ensures c.highs.ensures c.lows.ensures c.if-high-low-ne0.false
