-- The first fault of a policy table, for which it is not compiled.
use Rattle.std.specs.Prelude.{Bool, ◌&&◌, nat_lt, if◌then◌else◌, List, [], ◌∷◌, length, slice_index, Option, Some}
use Rattle.std.specs.Prelude.{None}
use Rattle.std.specs.Option.{option_or}
use Rattle.machine.specs.Helpers.{takes_kind}
use Rattle.machine.specs.Sizes.{Maps, kind_of_map}
use Rattle.machine.specs.declared.helpers.Helper.TheVariants.{Ticket}
use Rattle.policy_table.specs.declared.faults.PolicyFault.{PolicyFault}
use Rattle.policy_table.specs.declared.faults.PolicyFault.TheVariants.{TooLong, BadRange, NoCell}
use Rattle.policy_table.specs.declared.rules.Quota.{Quota}
use Rattle.policy_table.specs.declared.rules.Rule.{Rule}

-- whether the maps have the cell of a quota, in a map of which tickets are drawn
abbrev pub has_cell : Maps → Quota → Bool
has_cell sizes quota =
    nat_lt quota.map (length sizes.cells) && nat_lt quota.cell (slice_index sizes.cells quota.map)
    && takes_kind Ticket (kind_of_map sizes quota.map)

-- the fault of a quota: its cell is not there, or in a peak map
abbrev pub quota_fault : Maps → Option Quota → Option PolicyFault
quota_fault sizes None = None
quota_fault sizes (Some quota) = if has_cell sizes quota then None else Some NoCell

-- the first fault of a rule: its range ends before it begins, or the cell of its quota is not there or in a peak map
abbrev pub rule_fault : Maps → Rule → Option PolicyFault
rule_fault sizes rule = if nat_lt rule.high rule.low then Some BadRange else quota_fault sizes rule.quota

-- the first fault of rules, in their order
abbrev pub rules_fault : Maps → List Rule → Option PolicyFault
rules_fault sizes [] = None
rules_fault sizes (rule ∷ rules) = option_or (rule_fault sizes rule) (rules_fault sizes rules)

-- the first fault of a table: more than 12 rules, or the first of its rules'
abbrev pub compile_fault : Maps → List Rule → Option PolicyFault
compile_fault sizes rules = if nat_lt 12 (length rules) then Some TooLong else rules_fault sizes rules
