use Rattle.std.proofs.Common.{◌≡◌, drop}
use Rattle.policy_table.specs.Room.{length_from, length_fault as reported_of}
use Rattle.policy_table.proofs.room.length_fault.Given as goal

abbrev pub invariant-loop-own : goal.invariant-loop-own
invariant-loop-own l = length_from l.version l.room (drop l.own-index l.rules) ≡ reported_of l.version l.rules
