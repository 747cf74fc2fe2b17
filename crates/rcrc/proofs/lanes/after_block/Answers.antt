use Rattle.std.proofs.Common.{◌∙◌}
use Rattle.rcrc.proofs.LaneLemmas.{crc_of-added}
use Rattle.rcrc.proofs.lanes.after_block.Goals as goal

pub returns : goal.returns
returns c =
    c.bytes_of.ensures
    ∙ rw (c.stepped.ensures)
    (crc_of-added c.args.before c.args.block.now _ _ _ _ _ c.fits-before.1 c.told-block c.fits-block c.pairs_of.ensures c.word-first.ensures c.word-second.ensures c.word-third.ensures c.word-fourth.ensures)
