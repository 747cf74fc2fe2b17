use Rattle.std.proofs.Common.{◌≡◌, ◌++◌, drop}
use Rattle.std.specs.Prelude.{map}
use Rattle.charts.specs.Lines.{line_of}
use Rattle.charts.proofs.reported.point_lines_of.Given as goal

abbrev pub invariant-loop-cell : goal.invariant-loop-cell
invariant-loop-cell l = l.lines.items ++ map line_of (drop l.cell-index l.cells) ≡ map line_of l.cells
