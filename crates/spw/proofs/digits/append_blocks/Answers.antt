use Rattle.std.proofs.Common.{arith}
use Rattle.spw.proofs.DigitBlocks.{block_digits, one_more}
use Rattle.spw.proofs.digits.append_blocks.Goals as goal

pub returns-in_default-clause-digits : goal.returns-in_default-clause-digits
returns-in_default-clause-digits c = (
  λ is. cc is,
  λ all. absurd (c.in_default.ensures (block_digits c.loop-block.block-index c.args.blocks.now c.loop-block-test.true all)),
)

pub push_block-requires : goal.push_block-requires
push_block-requires c =
    let inv = c.loop-block.invariant in
    omega (arith, c.requires, c.loop-block-test.true, inv.1, inv.2)

pub loop-block-preserved : goal.loop-block-preserved
loop-block-preserved c =
    let below = c.loop-block-test.true in
    let inv = c.loop-block.invariant in (
      one_more c.loop-block.block-index c.args.blocks.now c.args.bytes.now.items c.loop-block.bytes.items c.in-Some.written c.push_block.new.bytes.items
          below (c.told-blocks c.loop-block.block-index below) inv.0 c.in-Some.ensures.0 c.in-Some.ensures.1 c.push_block.ensures.items,
      omega (arith, inv.1, c.push_block.ensures.len),
      omega (arith, inv.2, c.push_block.ensures.room),
    )
