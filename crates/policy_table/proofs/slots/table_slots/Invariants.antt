use Rattle.std.proofs.Common.{◌≡◌, ◌≤◌, ◌+◌, drop}
use Rattle.std.specs.Prelude.{◌-◌, ◌^◌, min}
use Rattle.policy_table.specs.Slots.{rules_slots, table_slots as slots_for}
use Rattle.policy_table.proofs.slots.table_slots.Given as goal

abbrev pub invariant-loop-own : goal.invariant-loop-own
invariant-loop-own l = (l.slots ≤ 2 ^ 64 - 1)
    × (min (l.slots + rules_slots (drop l.own-index l.rules)) (2 ^ 64 - 1) ≡ min (slots_for l.rules) (2 ^ 64 - 1))
