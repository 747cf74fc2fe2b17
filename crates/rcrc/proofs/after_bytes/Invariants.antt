use Rattle.std.proofs.Common.{◌≡◌, take}
use Rattle.rcrc.specs.Crc.{crc_from}
use Rattle.rcrc.proofs.after_bytes.Given as goal

abbrev pub invariant-loop-byte : goal.invariant-loop-byte
invariant-loop-byte l = l.register ≡ crc_from l.start (take l.byte-index l.bytes)
