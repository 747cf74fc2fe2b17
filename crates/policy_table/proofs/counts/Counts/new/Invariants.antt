use Rattle.std.proofs.Common.{◌≡◌, replicate}
use Rattle.policy_table.proofs.counts.Counts.new.Given as goal

abbrev pub invariant-loop-cell : goal.invariant-loop-cell
invariant-loop-cell l = l.counts.items ≡ replicate l._cell 0
