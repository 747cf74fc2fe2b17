use Rattle.std.proofs.Common.{◌≢◌, take}
use Rattle.std.specs.Prelude.{All}
use Rattle.chart_lines.specs.Rows.{RowValue}
use Rattle.chart_lines.proofs.rows.asked_place_of.Given as goal

abbrev pub invariant-loop-place : goal.invariant-loop-place
invariant-loop-place l = All (λ (row : RowValue). row.reported ≢ l.reported) (take l.place l.rows)
