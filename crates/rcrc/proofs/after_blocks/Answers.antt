use Rattle.std.proofs.Common.{◌≡◌, ◌/◌, length, fold, ◌∙◌, arith}
use Rattle.std.specs.Simd.{first_chunks}
use Rattle.std.proofs.lemmas.Grind.{common_steps}
use Rattle.rcrc.specs.Crc.{crc_from, crc_of}
use Rattle.rcrc.proofs.SumLemmas.{crc_from-chunks}
use Rattle.rcrc.proofs.after_blocks.Goals as goal

pub returns : goal.returns
returns c =
    let bytes = c.args.bytes.now in
    let count = length bytes / 64 in
    let last : crc_of c.loop-block.lanes ≡ fold crc_from c.args.start (first_chunks 64 count bytes) = grind (arith, common_steps) in
    c.after_chunks-2.ensures
    ∙ rw (c.after_chunks.ensures, c.as_array.ensures, last, c.as_chunks.ensures.back) (crc_from-chunks 64 count c.args.start bytes)
