use Rattle.std.specs.Prelude.{⊤}
use Rattle.chart_lines.proofs.witnesses.witness.Given as goal

abbrev pub invariant-loop-within : goal.invariant-loop-within
invariant-loop-within l = ⊤
