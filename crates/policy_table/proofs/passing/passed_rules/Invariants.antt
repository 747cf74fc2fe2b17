use Rattle.std.proofs.Common.{◌≡◌, ◌++◌, drop}
use Rattle.machine.specs.Memory.{header}
use Rattle.policy_table.specs.Passing.{passed_rules as passed_by}
use Rattle.policy_table.proofs.passing.passed_rules.Given as goal

abbrev pub invariant-loop-rule : goal.invariant-loop-rule
invariant-loop-rule l =
    passed_by l.rules (header l.front l.tail) l.draws ≡ l.all.items ++ passed_by (drop l.rule-index l.rules) (header l.front l.tail) l.left
