use Rattle.std.proofs.Common.{◌≡◌, ◌++◌, drop}
use Rattle.policy_table.specs.Ports.{rules_at as asked_at}
use Rattle.policy_table.proofs.port_tables.rules_at.Given as goal

abbrev pub invariant-loop-own : goal.invariant-loop-own
invariant-loop-own l = l.all.items ++ asked_at l.port (drop l.own-index l.rules) ≡ asked_at l.port l.rules
