use Rattle.std.proofs.Common.{◌≡◌, drop}
use Rattle.policy_table.specs.FirstFault.{rules_fault as fault_of}
use Rattle.policy_table.proofs.checks.rules_fault.Given as goal

abbrev pub invariant-loop-rule : goal.invariant-loop-rule
invariant-loop-rule l = fault_of l.sizes (drop l.rule-index l.rules) ≡ fault_of l.sizes l.rules
