use Rattle.std.proofs.Common.{◌≡◌, ◌/◌, length, fold, ◌∙◌, arith}
use Rattle.std.specs.Simd.{first_chunks}
use Rattle.std.proofs.lemmas.Grind.{common_steps}
use Rattle.rcrc.specs.Crc.{crc_from}
use Rattle.rcrc.proofs.SumLemmas.{crc_from-chunks}
use Rattle.rcrc.proofs.after_chunks.Goals as goal

pub returns : goal.returns
returns c =
    let bytes = c.args.bytes.now in
    let count = length bytes / 8 in
    let last : c.loop-chunk.register ≡ fold crc_from c.args.start (first_chunks 8 count bytes) = grind (arith, common_steps) in
    c.after_bytes.ensures ∙ rw (last, c.as_chunks.ensures.back) (crc_from-chunks 8 count c.args.start bytes)
