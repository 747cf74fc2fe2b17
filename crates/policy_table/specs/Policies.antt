-- Tables of either version: what a text writes, and the first fault for which a table is not compiled.
use Rattle.std.specs.Prelude.{◌≡◌, ◌⊎◌, ℕ, suc, Bool, false, not, ◌&&◌, nat_lt, if◌then◌else◌, List, [], ◌∷◌, Option, Some, None}
use Rattle.std.specs.Prelude.{option_map}
use Rattle.std.specs.List.{list_any}
use Rattle.std.specs.Option.{option_or}
use Rattle.machine.specs.Sizes.{Maps}
use Rattle.policy_table.specs.PartialTables.{PartialTableValue, HasBadLine, LinesWrite, empty_partial_table}
use Rattle.policy_table.specs.FirstFault.{quota_fault}
use Rattle.policy_table.specs.Room.{length_fault}
use Rattle.policy_table.specs.Statements.{is_version_two, has_version}
use Rattle.policy_table.specs.declared.port_rules.PortRule.{PortRule}
use Rattle.policy_table.specs.declared.statement_faults.StatementFault.TheVariants.{RangeOrder, RuleOrder, NoCell}
use Rattle.policy_table.specs.declared.text_faults.TextFault.{TextFault}
use Rattle.policy_table.specs.declared.text_faults.TextFault.TheVariants.{Line}
use Rattle.policy_table.specs.declared.versions.TableVersion.{TableVersion}
use Rattle.policy_table.specs.declared.versions.TableVersion.TheVariants.{One, Two}

-- a table of either version: its form, the line of the first range that ends before it begins, and its rules, in order
pub record PolicyValue : Type 0 where
  pub version : TableVersion
  pub reversed : Option ℕ
  pub rules : List PortRule

-- of these parts
abbrev pub policy_value : TableVersion → Option ℕ → List PortRule → PolicyValue
policy_value version reversed rules = record { version = version; reversed = reversed; rules = rules }

-- ---- what a text writes

-- how lines are read: their version, how many are before those that say something, and these
pub record ReadingValue : Type 0 where
  pub version : TableVersion
  pub before : ℕ
  pub lines : List (List ℕ)

-- of these parts
abbrev pub policy_reading : TableVersion → ℕ → List (List ℕ) → ReadingValue
policy_reading version before lines = record { version = version; before = before; lines = lines }

-- the version of lines of which the first is not `.version 2`. If a line says a version, it is none of version 1. So
-- the lines are read as version 2, in which it is a fault
abbrev pub policy_version_of : (lines : List (List ℕ)) → TableVersion
policy_version_of lines = if list_any has_version lines then Two else One

-- lines are of version 2 if the first is `.version 2`, which says nothing more
abbrev pub policy_reading_of : (lines : List (List ℕ)) → ReadingValue
policy_reading_of [] = policy_reading One 0 []
policy_reading_of (first ∷ rest) =
    if is_version_two first then policy_reading Two 1 rest else policy_reading (policy_version_of (first ∷ rest)) 0 (first ∷ rest)

-- the lines that are read so are this table
pub record WritesReading (how : ReadingValue) (policy : PolicyValue) : Type 0 where
  pub end : PartialTableValue
  pub are : LinesWrite how.version (suc how.before) how.lines empty_partial_table end
  pub is : policy ≡ policy_value how.version end.reversed end.rules

-- the lines are a table of the version in which they are read
abbrev pub WritesPolicy : (lines : List (List ℕ)) → PolicyValue → Type 0
WritesPolicy lines policy = WritesReading (policy_reading_of lines) policy

-- why the lines are no table of that version: the first line that is none of it, or memory was refused
abbrev pub IsUnreadPolicy : (lines : List (List ℕ)) → TextFault → Type 0
IsUnreadPolicy lines fault =
    HasBadLine (policy_reading_of lines).version (suc (policy_reading_of lines).before) (policy_reading_of lines).lines empty_partial_table fault

-- ---- tables that are not compiled

-- the range of a rule ends before it begins. If the range has a name, the line that gives the name is at fault instead
abbrev pub is_reversed : PortRule → Bool
is_reversed own = not own.named && nat_lt own.rule.high own.rule.low

-- the fault of a rule, with its place: its range ends before it begins, or its quota has no cell
abbrev pub placed_rule_fault : Maps → PortRule → Option TextFault
placed_rule_fault sizes own =
    if is_reversed own then Some (Line own.line RuleOrder)
    else option_map (λ _. Line own.line (NoCell own.named)) (quota_fault sizes own.rule.quota)

-- the fault of the range that ends before it begins, if there is one
abbrev pub reversed_fault : (reversed : Option ℕ) → Option TextFault
reversed_fault reversed = option_map (λ line. Line line RangeOrder) reversed

-- whether that range is before a line
abbrev pub is_before : (reversed : Option ℕ) → (line : ℕ) → Bool
is_before None line = false
is_before (Some at) line = nat_lt at line

-- the first fault of rules and of that range, line by line
abbrev pub placed_rules_fault : Maps → (reversed : Option ℕ) → List PortRule → Option TextFault
placed_rules_fault sizes reversed [] = reversed_fault reversed
placed_rules_fault sizes reversed (own ∷ rules) =
    if is_before reversed own.line then reversed_fault reversed
    else option_or (placed_rule_fault sizes own) (placed_rules_fault sizes reversed rules)

-- the first fault of a table for maps of these sizes: it is too long, or the first of its lines'
abbrev pub policy_fault : Maps → PolicyValue → Option TextFault
policy_fault sizes policy =
    option_or (length_fault policy.version policy.rules) (placed_rules_fault sizes policy.reversed policy.rules)

-- the lines are a table that has this first fault with maps of these sizes
abbrev pub HasPolicyFault : Maps → (lines : List (List ℕ)) → TextFault → Type 0
HasPolicyFault sizes lines fault =
    (policy : PolicyValue) × WritesPolicy lines policy × (policy_fault sizes policy ≡ Some fault)

-- why a text is no table without a fault, for maps of these sizes
abbrev pub IsPolicyFault : Maps → (lines : List (List ℕ)) → TextFault → Type 0
IsPolicyFault sizes lines fault = IsUnreadPolicy lines fault ⊎ HasPolicyFault sizes lines fault

-- ---- tables that are drawn

-- the first fault of a table of which no program is made, for maps of these sizes: the first of its lines', however many they are
abbrev pub drawn_fault : Maps → PolicyValue → Option TextFault
drawn_fault sizes policy = placed_rules_fault sizes policy.reversed policy.rules

-- why a text is no table without such a fault
abbrev pub IsDrawnFault : Maps → (lines : List (List ℕ)) → TextFault → Type 0
IsDrawnFault sizes lines fault =
    IsUnreadPolicy lines fault ⊎ ((policy : PolicyValue) × WritesPolicy lines policy × (drawn_fault sizes policy ≡ Some fault))
