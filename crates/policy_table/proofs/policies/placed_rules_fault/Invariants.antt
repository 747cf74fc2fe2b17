use Rattle.std.proofs.Common.{◌≡◌, drop}
use Rattle.policy_table.specs.Policies.{placed_rules_fault as reported_of}
use Rattle.policy_table.proofs.policies.placed_rules_fault.Given as goal

abbrev pub invariant-loop-own : goal.invariant-loop-own
invariant-loop-own l = reported_of l.sizes l.reversed (drop l.own-index l.rules) ≡ reported_of l.sizes l.reversed l.rules
