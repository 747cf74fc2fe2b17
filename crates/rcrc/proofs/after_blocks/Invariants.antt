use Rattle.std.proofs.Common.{◌≡◌, take, fold}
use Rattle.rcrc.specs.Crc.{crc_from, crc_of}
use Rattle.rcrc.proofs.after_blocks.Given as goal

abbrev pub invariant-loop-block : goal.invariant-loop-block
invariant-loop-block l = crc_of l.lanes ≡ fold crc_from l.start (take l.block-index l.blocks)
