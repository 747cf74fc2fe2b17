use Rattle.std.proofs.Common.{◌≡◌, ◌+◌, length}
use Rattle.frames_c.specs.Taking.{take_whole}
use Rattle.frames_c.proofs.Taking.{more}
use Rattle.frames_c.proofs.reader.Frames.take.Given as goal

abbrev pub invariant-loop-rest : goal.invariant-loop-rest
invariant-loop-rest l =
    (take_whole l.initial.self l.bytes ≡ more l.taken (take_whole l.self l.rest)) × (l.taken + length l.rest ≡ length l.bytes)
    × (l.room ≡ l.initial.room)

abbrev pub decreases-loop-rest : goal.decreases-loop-rest
decreases-loop-rest l = length l.rest
