use Rattle.chart_lines.specs.Witnesses.{AreOthers}
use Rattle.chart_lines.proofs.witnesses.first_like.Given as goal

abbrev pub invariant-loop-number : goal.invariant-loop-number
invariant-loop-number l = AreOthers l.lines l.place l.number
