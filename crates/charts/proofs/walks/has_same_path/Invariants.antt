use Rattle.charts.proofs.Walking.{GoOnAlike}
use Rattle.charts.proofs.walks.has_same_path.Given as goal

abbrev pub invariant-loop-rule : goal.invariant-loop-rule
invariant-loop-rule l = GoOnAlike l.rules l.rule-index l.one l.other
