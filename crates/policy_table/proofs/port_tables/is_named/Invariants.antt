use Rattle.std.proofs.Common.{◌≡◌, drop}
use Rattle.policy_table.specs.PortTables.{is_named as names}
use Rattle.policy_table.proofs.port_tables.is_named.Given as goal

abbrev pub invariant-loop-own : goal.invariant-loop-own
invariant-loop-own l = names l.port (drop l.own-index l.rules) ≡ names l.port l.rules
