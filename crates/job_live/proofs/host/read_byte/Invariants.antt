-- nothing was read so far, and there is room for one byte
use Rattle.std.proofs.Common.{◌≡◌, length}
use Rattle.std.specs.Io.KnownBytes.{Keeps}
use Rattle.job_live.proofs.host.read_byte.Given as goal

abbrev pub invariant-loop-try : goal.invariant-loop-try
invariant-loop-try g l =
    Keeps (g.I.Read.remaining l.initial.input) (g.I.Read.remaining l.input) × (length l.room ≡ 1)
