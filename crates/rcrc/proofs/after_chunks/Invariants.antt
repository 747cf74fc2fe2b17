use Rattle.std.proofs.Common.{◌≡◌, take, fold}
use Rattle.rcrc.specs.Crc.{crc_from}
use Rattle.rcrc.proofs.after_chunks.Given as goal

abbrev pub invariant-loop-chunk : goal.invariant-loop-chunk
invariant-loop-chunk l = l.register ≡ fold crc_from l.start (take l.chunk-index l.chunks)
