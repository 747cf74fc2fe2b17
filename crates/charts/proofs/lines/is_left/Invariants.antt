use Rattle.std.proofs.Common.{◌≡◌, drop}
use Rattle.charts.specs.Lines.{is_left}
use Rattle.charts.proofs.lines.is_left.Given as goal

abbrev pub invariant-loop-other : goal.invariant-loop-other
invariant-loop-other l = is_left (drop l.other-index l.before) l.line l.point ≡ is_left l.before l.line l.point
