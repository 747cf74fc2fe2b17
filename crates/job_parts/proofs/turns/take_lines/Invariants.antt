use Rattle.std.proofs.Common.{◌≡◌, length, map}
use Rattle.job_parts.specs.Turns.{AreTaken}
use Rattle.job_parts.proofs.turns.take_lines.Given as goal

abbrev pub invariant-loop-line : goal.invariant-loop-line
invariant-loop-line g l = (l.number ≡ length l.yielded)
    × AreTaken g.T.TakesLines.takes (map (λ line. line.now) l.yielded) l.fn.taker l.taker (g.W.Write.contents l.fn.out) (g.W.Write.contents l.out)
