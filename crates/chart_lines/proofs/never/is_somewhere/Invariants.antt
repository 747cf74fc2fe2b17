use Rattle.std.proofs.Common.{take}
use Rattle.std.specs.Prelude.{All}
use Rattle.chart_lines.specs.Never.{IsNoFate}
use Rattle.chart_lines.proofs.never.is_somewhere.Given as goal

abbrev pub invariant-loop-place : goal.invariant-loop-place
invariant-loop-place l = All (λ at. IsNoFate l.fate at l.line) (take l.place l.tables)
