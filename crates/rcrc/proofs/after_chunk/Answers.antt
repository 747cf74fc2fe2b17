use Rattle.std.proofs.Common.{sym}
use Rattle.rcrc.proofs.SumLemmas.{crc_from-chunk}
use Rattle.rcrc.proofs.after_chunk.Goals as goal

pub returns : goal.returns
returns c =
    rw (c.shifted.ensures, c.shifted-2.ensures, c.shifted-3.ensures, c.shifted-4.ensures, c.shifted-5.ensures, c.shifted-6.ensures, c.shifted-7.ensures, c.shifted-8.ensures)
    (sym (crc_from-chunk c.args.register c.args.chunk.now c.told-chunk))
