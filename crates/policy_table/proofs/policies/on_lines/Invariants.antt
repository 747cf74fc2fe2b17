use Rattle.std.proofs.Common.{◌≡◌, ◌+◌, ◌++◌, length, drop}
use Rattle.policy_table.specs.Ports.{on_lines as written_on}
use Rattle.policy_table.proofs.policies.on_lines.Given as goal

abbrev pub invariant-loop-rule : goal.invariant-loop-rule
invariant-loop-rule l = (length l.all.items ≡ l.rule-index)
    × (l.all.items ++ written_on (l.rule-index + 1) (drop l.rule-index l.rules) ≡ written_on 1 l.rules)
