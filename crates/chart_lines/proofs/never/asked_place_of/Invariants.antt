use Rattle.std.proofs.Common.{◌≡◌, drop}
use Rattle.chart_lines.specs.Never.{place_from, asked_place_of}
use Rattle.chart_lines.proofs.never.asked_place_of.Given as goal

abbrev pub invariant-loop-place : goal.invariant-loop-place
invariant-loop-place l = place_from l.place l.line (drop l.place l.lines) ≡ asked_place_of l.line l.lines
