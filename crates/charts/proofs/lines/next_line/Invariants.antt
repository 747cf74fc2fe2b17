use Rattle.std.proofs.Common.{◌≡◌, drop, take}
use Rattle.charts.specs.Lines.{point_lines_of}
use Rattle.charts.proofs.lines.next_line.Given as goal

abbrev pub invariant-loop-number : goal.invariant-loop-number
invariant-loop-number l = point_lines_of (take l.number l.lines) (drop l.number l.lines) l.point ≡ point_lines_of (take l.from l.lines) (drop l.from l.lines) l.point
