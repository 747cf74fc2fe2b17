-- Which rule of a table is the first for which there is no room.
use Rattle.std.specs.Prelude.{ℕ, ◌+◌, ◌-◌, Bool, true, false, ◌||◌, nat_lt, is_some, if◌then◌else◌, List, [], ◌∷◌}
use Rattle.std.specs.Prelude.{Option, Some, None}
use Rattle.std.specs.Option.{option_or}
use Rattle.bpf.specs.declared.header.TheConstants.{MAX_SLOTS}
use Rattle.policy_table.specs.Slots.{port_rule_slots}
use Rattle.policy_table.specs.declared.port_rules.PortRule.{PortRule}
use Rattle.policy_table.specs.declared.room.Room.{Room}
use Rattle.policy_table.specs.declared.statement_faults.StatementFault.{StatementFault}
use Rattle.policy_table.specs.declared.statement_faults.StatementFault.TheVariants.{TooManyRules, TooManySlots}
use Rattle.policy_table.specs.declared.text_faults.TextFault.{TextFault}
use Rattle.policy_table.specs.declared.text_faults.TextFault.TheVariants.{Line}
use Rattle.policy_table.specs.declared.versions.TableVersion.{TableVersion}
use Rattle.policy_table.specs.declared.versions.TableVersion.TheVariants.{One, Two}

-- of these parts: what is left, and whether a rule asks the port
abbrev pub room : ℕ → Bool → Room
room left asks = record { left = left; asks = asks }

-- the room of a table before its first rule: 12 rules in version 1. In version 2 it is the slots of an image, except
-- the sixteen that come before and after the rules
abbrev pub whole_room : TableVersion → Room
whole_room One = room 12 false
whole_room Two = room (MAX_SLOTS - 16) false

-- the slot that puts the port on the stack, if this is the first rule that asks it
abbrev pub first_port_slots : (asks : Bool) → Option ℕ → ℕ
first_port_slots true port = 0
first_port_slots false None = 0
first_port_slots false (Some wanted) = 1

-- how much room a rule takes: one rule, or its slots
abbrev pub room_taken : TableVersion → (asks : Bool) → PortRule → ℕ
room_taken One asks own = 1
room_taken Two asks own = first_port_slots asks own.port + port_rule_slots own

-- there is no room for the rule
abbrev pub is_too_much : TableVersion → Room → PortRule → Bool
is_too_much version r own = nat_lt r.left (room_taken version r.asks own)

-- the fault of a rule for which there is no room
abbrev pub too_many : TableVersion → Room → PortRule → StatementFault
too_many One r own = TooManyRules
too_many Two r own = TooManySlots (room_taken Two r.asks own) r.left

-- the room that is left after a rule
abbrev pub room_left : TableVersion → Room → PortRule → Room
room_left version r own = room (r.left - room_taken version r.asks own) (r.asks || is_some own.port)

-- the fault of a rule for which there is no room, with its place; none if a rule before it had no room
abbrev pub room_fault : TableVersion → Option Room → PortRule → Option TextFault
room_fault version None own = None
room_fault version (Some r) own = if is_too_much version r own then Some (Line own.line (too_many version r own)) else None

-- the room after a rule; none after the first for which there is none
abbrev pub room_after : TableVersion → Option Room → PortRule → Option Room
room_after version None own = None
room_after version (Some r) own = if is_too_much version r own then None else Some (room_left version r own)

-- the fault of the first of rules for which there is no room
abbrev pub length_from : TableVersion → Option Room → List PortRule → Option TextFault
length_from version r [] = None
length_from version r (own ∷ rules) =
    option_or (room_fault version r own) (length_from version (room_after version r own) rules)

-- the fault of a table that is too long: its first rule for which there is no room
abbrev pub length_fault : TableVersion → List PortRule → Option TextFault
length_fault version rules = length_from version (Some (whole_room version)) rules
