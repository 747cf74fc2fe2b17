-- How many slots the program of a table has.
use Rattle.std.specs.Prelude.{ℕ, ◌+◌, Bool, is_some, if◌then◌else◌, List, [], ◌∷◌, Option, Some, None}
use Rattle.std.specs.List.{list_any}
use Rattle.policy_table.specs.declared.port_rules.PortRule.{PortRule}
use Rattle.policy_table.specs.declared.rules.Quota.{Quota}
use Rattle.policy_table.specs.declared.rules.Rule.{Rule}
use Rattle.policy_table.specs.declared.rules.RuleKind.{RuleKind}
use Rattle.policy_table.specs.declared.rules.RuleKind.TheVariants.{Read, Write, Rmw, Any}

-- how many slots a test of the kind has
abbrev pub kind_slots : RuleKind → ℕ
kind_slots Any = 0
kind_slots Read = 3
kind_slots Write = 3
kind_slots Rmw = 3

-- how many slots a test of the field has
abbrev pub field_slots : Option ℕ → ℕ
field_slots None = 0
field_slots (Some wanted) = 2

-- how many slots a test of the quota has: the load of a map has two
abbrev pub quota_slots : Option Quota → ℕ
quota_slots None = 0
quota_slots (Some quota) = 5

-- how many slots a rule has without the test of its port: its tests, four for the range, and two for the verdict
abbrev pub rule_slots : Rule → ℕ
rule_slots rule =
    kind_slots rule.kind + field_slots rule.key + field_slots rule.initiator + field_slots rule.extended + 4
    + quota_slots rule.quota + 2

-- with the test of its port
abbrev pub port_rule_slots : PortRule → ℕ
port_rule_slots own = field_slots own.port + rule_slots own.rule

-- of all rules
abbrev pub rules_slots : List PortRule → ℕ
rules_slots [] = 0
rules_slots (own ∷ rules) = port_rule_slots own + rules_slots rules

-- whether a rule asks the port
abbrev pub asks_ports : List PortRule → Bool
asks_ports rules = list_any (λ own. is_some own.port) rules

-- one slot puts the port on the stack, if a rule asks it
abbrev pub port_slots : List PortRule → ℕ
port_slots rules = if asks_ports rules then 1 else 0

-- the program of a table: its rules, sixteen slots before and after them, and what puts the port on the stack
abbrev pub table_slots : List PortRule → ℕ
table_slots rules = 16 + port_slots rules + rules_slots rules
