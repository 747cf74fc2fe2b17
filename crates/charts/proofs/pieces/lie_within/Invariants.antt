use Rattle.std.proofs.Common.{take}
use Rattle.charts.specs.Pieces.{LieWithin}
use Rattle.charts.proofs.pieces.lie_within.Given as goal

abbrev pub invariant-loop-place : goal.invariant-loop-place
invariant-loop-place l = LieWithin l.asked (take l.place l.lines)
