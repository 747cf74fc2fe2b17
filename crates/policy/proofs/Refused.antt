-- What the faults of tables say.
use Rattle.std.specs.Prelude.{All, ◌&&◌, ◌||◌, ◌+◌, ◌-◌, ◌*◌, is_some, nat_lt, if◌then◌else◌, option_map, slice_index}
use Rattle.std.specs.Option.{option_or}
use Rattle.std.proofs.Common.{◌≡◌, ◌≤◌, ℕ, suc, Bool, true, false, List, [], ◌∷◌, length, Option, Some, None, refl, ap, subst, arith}
use Rattle.std.proofs.lemmas.Bool.{ltb-false, ltb-true, and_parts}
use Rattle.std.proofs.lemmas.List.Elements.{All-cons, All-head, All-nil, All-tail}
use Rattle.machine.specs.declared.calls.Call.{Call}
use Rattle.machine.specs.Helpers.{takes_kind}
use Rattle.machine.specs.declared.helpers.Helper.TheVariants.{Ticket}
use Rattle.machine.specs.Sizes.{IsInside, Maps, kind_of_map}
use Rattle.machine.specs.declared.kinds.MapKind.{MapKind}
use Rattle.machine.specs.declared.kinds.MapKind.TheVariants.{Counter, Peak}
use Rattle.rmap.specs.Verdict.{verdict_number}
use Rattle.policy.specs.Compiled.{HasCells, HasPortCells, IsCompileFault, IsOfCounter}
use Rattle.policy.specs.Meant.{HaveCells}
use Rattle.policy_table.specs.FirstFault.{compile_fault, has_cell, quota_fault, rule_fault, rules_fault}
use Rattle.policy_table.specs.Meaning.{agrees, decision, draw, holds, ruled}
use Rattle.policy_table.specs.Policies.{PolicyValue, is_before, is_reversed, policy_fault, reversed_fault, placed_rule_fault, placed_rules_fault}
use Rattle.policy_table.specs.Ports.{at_every_port, on_lines, rules_at}
use Rattle.policy_table.specs.Room.{first_port_slots, is_too_much, length_from, length_fault, room_after, room_left, room_taken, too_many, whole_room}
use Rattle.policy_table.specs.Slots.{asks_ports, field_slots, kind_slots, port_rule_slots, port_slots, quota_slots, rules_slots, table_slots}
use Rattle.policy_table.specs.declared.faults.PolicyFault.{PolicyFault}
use Rattle.policy_table.specs.declared.faults.PolicyFault.TheVariants.{TooLong, BadRange, Memory, NoCell, BadLine}
use Rattle.policy_table.specs.declared.port_rules.PortRule.{PortRule}
use Rattle.policy_table.specs.declared.room.Room.{Room}
use Rattle.policy_table.specs.declared.rules.Quota.{Quota}
use Rattle.policy_table.specs.declared.rules.Rule.{Rule}
use Rattle.policy_table.specs.declared.rules.RuleKind.{RuleKind}
use Rattle.policy_table.specs.declared.rules.RuleKind.TheVariants.{Read, Write, Rmw, Any}
use Rattle.policy_table.specs.declared.statement_faults.StatementFault.TheVariants as lines
use Rattle.policy_table.specs.declared.text_faults.TextFault.{TextFault}
use Rattle.policy_table.specs.declared.text_faults.TextFault.TheVariants.{Line}
use Rattle.policy_table.specs.declared.versions.TableVersion.{TableVersion}
use Rattle.policy_table.specs.declared.versions.TableVersion.TheVariants.{One, Two}

-- ---- the faults that a table can have

abbrev IsOfTable : Option PolicyFault → Type 0
IsOfTable None = Unit {0}
IsOfTable (Some TooLong) = Unit {0}
IsOfTable (Some BadRange) = Unit {0}
IsOfTable (Some Memory) = ⊥
IsOfTable (Some NoCell) = Unit {0}
IsOfTable (Some BadLine) = ⊥

either_fault : (t : Bool) (f g : Option PolicyFault) → IsOfTable f → IsOfTable g → IsOfTable (if t then f else g)
either_fault true f g of_f of_g = of_f
either_fault false f g of_f of_g = of_g

quota_of_table : (sizes : Maps) (quota : Option Quota) → IsOfTable (quota_fault sizes quota)
quota_of_table sizes None = tt
quota_of_table sizes (Some quota) = either_fault (has_cell sizes quota) None (Some NoCell) tt tt

rule_of_table : (sizes : Maps) (rule : Rule) → IsOfTable (rule_fault sizes rule)
rule_of_table sizes rule = either_fault (nat_lt rule.high rule.low) (Some BadRange) (quota_fault sizes rule.quota) tt (quota_of_table sizes rule.quota)

first_of_table : (f g : Option PolicyFault) → IsOfTable f → IsOfTable g → IsOfTable (option_or f g)
first_of_table None g of_f of_g = of_g
first_of_table (Some fault) g of_f of_g = of_f

rules_of_table : (sizes : Maps) (rules : List Rule) → IsOfTable (rules_fault sizes rules)
rules_of_table sizes [] = tt
rules_of_table sizes (rule ∷ rules) = first_of_table (rule_fault sizes rule) (rules_fault sizes rules) (rule_of_table sizes rule) (rules_of_table sizes rules)

of_table : (sizes : Maps) (rules : List Rule) → IsOfTable (compile_fault sizes rules)
of_table sizes rules = either_fault (nat_lt 12 (length rules)) (Some TooLong) (rules_fault sizes rules) tt (rules_of_table sizes rules)

reported_of : (first : Option PolicyFault) (fault : PolicyFault) → IsOfTable (Some fault) → first ≡ Some fault → IsCompileFault first fault
reported_of first TooLong of_it is = is
reported_of first BadRange of_it is = is
reported_of first Memory of_it is = absurd of_it
reported_of first NoCell of_it is = is
reported_of first BadLine of_it is = absurd of_it

pub is_reported : (sizes : Maps) (rules : List Rule) (fault : PolicyFault) → compile_fault sizes rules ≡ Some fault → IsCompileFault (compile_fault sizes rules) fault
is_reported sizes rules fault is = reported_of (compile_fault sizes rules) fault (subst (λ (f : Option PolicyFault). IsOfTable f) is (of_table sizes rules)) is

-- ---- cells

abbrev AreInside : Maps → List Call → Type 0
AreInside sizes calls = All (IsOfCounter sizes) calls

no_fault : (t : Bool) (fault : PolicyFault) (rest : Option PolicyFault) → (if t then Some fault else rest) ≡ None → rest ≡ None
no_fault true fault rest is = cc
no_fault false fault rest is = is

met : (t : Bool) (fault : PolicyFault) → (if t then None else Some fault) ≡ None → t ≡ true
met true fault is = refl
met false fault is = cc

none_first : (f g : Option PolicyFault) → option_or f g ≡ None → f ≡ None
none_first None g is = refl
none_first (Some fault) g is = cc

none_second : (f g : Option PolicyFault) → option_or f g ≡ None → g ≡ None
none_second None g is = is
none_second (Some fault) g is = cc

counts : (kind : MapKind) → takes_kind Ticket kind ≡ true → kind ≡ Counter
counts Counter is = refl
counts Peak is = absurd cc

inside : (sizes : Maps) (quota : Quota) → has_cell sizes quota ≡ true → IsInside sizes quota.map quota.cell × (kind_of_map sizes quota.map ≡ Counter)
inside sizes quota is =
    let whole = and_parts (nat_lt quota.map (length sizes.cells) && nat_lt quota.cell (slice_index sizes.cells quota.map)) (takes_kind Ticket (kind_of_map sizes quota.map)) is in
    let parts = and_parts (nat_lt quota.map (length sizes.cells)) (nat_lt quota.cell (slice_index sizes.cells quota.map)) whole.0 in
    (record { map_exists = ltb-true _ _ parts.0; key_exists = ltb-true _ _ parts.1 }, counts (kind_of_map sizes quota.map) whole.1)

-- the maps have the cell of a quota without a fault
pub quota_inside : (sizes : Maps) (quota : Quota) → quota_fault sizes (Some quota) ≡ None → IsInside sizes quota.map quota.cell × (kind_of_map sizes quota.map ≡ Counter)
quota_inside sizes quota none = inside sizes quota (met (has_cell sizes quota) NoCell none)

-- if rules have no fault, the quota of the first and the others have none
pub no_faults : (sizes : Maps) (rule : Rule) (rules : List Rule) → rules_fault sizes (rule ∷ rules) ≡ None → (quota_fault sizes rule.quota ≡ None) × (rules_fault sizes rules ≡ None)
no_faults sizes rule rules none =
    let first : rule_fault sizes rule ≡ None = none_first (rule_fault sizes rule) (rules_fault sizes rules) none in
    (no_fault (nat_lt rule.high rule.low) BadRange (quota_fault sizes rule.quota) first, none_second (rule_fault sizes rule) (rules_fault sizes rules) none)

-- one of two decisions
either_inside : (t : Bool) (sizes : Maps) (f g : List Call × ℕ) → AreInside sizes f.0 → AreInside sizes g.0 → AreInside sizes (if t then f else g).0
either_inside true sizes f g in_f in_g = in_f
either_inside false sizes f g in_f in_g = in_g

ruled_inside : (sizes : Maps) (quota : Option Quota) (code : ℕ) (reported : ℕ → ℕ) (rest : List Call × ℕ) → quota_fault sizes quota ≡ None → AreInside sizes rest.0 → AreInside sizes (ruled quota code reported rest).0
ruled_inside sizes None code reported rest none are = All-nil (IsOfCounter sizes)
ruled_inside sizes (Some quota) code reported rest none are =
    let P : Call → Type 0 = IsOfCounter sizes in
    let first : Call = draw quota (reported 0) in
    let here : P first = let both = quota_inside sizes quota none in record { inside = both.0; kind = both.1 } in
    let alone : List Call × ℕ = (first ∷ [], code) in
    let more : List Call × ℕ = (first ∷ rest.0, rest.1) in
    either_inside (nat_lt (reported 0) quota.limit) sizes alone more (All-cons P first [] here (All-nil P)) (All-cons P first rest.0 here are)

-- one rule more
rule_inside : (sizes : Maps) (rule : Rule) (rules : List Rule) → quota_fault sizes rule.quota ≡ None → HasCells sizes rules → HasCells sizes (rule ∷ rules)
rule_inside sizes rule rules none others header reported =
    let later : List Call × ℕ = decision rules header (λ k. reported (suc k)) in
    either_inside (holds rule header) sizes (ruled rule.quota (verdict_number rule.verdict) reported later) (decision rules header reported)
    (ruled_inside sizes rule.quota (verdict_number rule.verdict) reported later none (others header (λ k. reported (suc k))))
    (others header reported)

asked_inside : (t : Bool) (sizes : Maps) (rule : Rule) (rules : List Rule) → quota_fault sizes rule.quota ≡ None → HasCells sizes rules → HasCells sizes (if t then rule ∷ rules else rules)
asked_inside true sizes rule rules none others = rule_inside sizes rule rules none others
asked_inside false sizes rule rules none others = others

-- the quota of a rule has its cell
abbrev IsThere : Maps → PortRule → Type 0
IsThere sizes own = quota_fault sizes own.rule.quota ≡ None

port_inside : (sizes : Maps) (port : ℕ) (rules : List PortRule) → HaveCells sizes rules → HasCells sizes (rules_at port rules)
port_inside sizes port [] have = λ header reported. All-nil (IsOfCounter sizes)
port_inside sizes port (own ∷ rules) have =
    asked_inside (agrees own.port port) sizes own.rule (rules_at port rules) (All-head (IsThere sizes) own rules have)
    (port_inside sizes port rules (All-tail (IsThere sizes) own rules have))

pub port_cells : (sizes : Maps) (rules : List PortRule) → HaveCells sizes rules → HasPortCells sizes rules
port_cells sizes rules have header port reported = port_inside sizes port rules have header reported

-- the rules of a table without a fault have none
pub no_rules_fault : (sizes : Maps) (rules : List Rule) → compile_fault sizes rules ≡ None → rules_fault sizes rules ≡ None
no_rules_fault sizes rules none = no_fault (nat_lt 12 (length rules)) TooLong (rules_fault sizes rules) none

lines_have : (sizes : Maps) (line : ℕ) (rules : List Rule) → rules_fault sizes rules ≡ None → HaveCells sizes (on_lines line rules)
lines_have sizes line [] none = All-nil (IsThere sizes)
lines_have sizes line (rule ∷ rules) none =
    let faults = no_faults sizes rule rules none in
    All-cons (IsThere sizes) (at_every_port line rule) (on_lines (suc line) rules) faults.0 (lines_have sizes (suc line) rules faults.1)

-- the maps have the cells of a table without a fault
pub table_cells : (sizes : Maps) (rules : List Rule) → compile_fault sizes rules ≡ None → HaveCells sizes (on_lines 1 rules)
table_cells sizes rules none = lines_have sizes 1 rules (no_rules_fault sizes rules none)

not_long : (t : Bool) (rest : Option PolicyFault) → (if t then Some TooLong else rest) ≡ None → t ≡ false
not_long true rest is = cc
not_long false rest is = refl

-- a table without a fault has at most 12 rules
pub few : (sizes : Maps) (rules : List Rule) → compile_fault sizes rules ≡ None → length rules ≤ 12
few sizes rules none = ltb-false 12 (length rules) (not_long (nat_lt 12 (length rules)) (rules_fault sizes rules) none)

-- ---- tables of either version

fault_after : (t : Bool) (fault : TextFault) (rest : Option TextFault) → (if t then Some fault else rest) ≡ None → rest ≡ None
fault_after true fault rest is = cc
fault_after false fault rest is = is

first_none : (f g : Option TextFault) → option_or f g ≡ None → f ≡ None
first_none None g is = refl
first_none (Some fault) g is = cc

second_none : (f g : Option TextFault) → option_or f g ≡ None → g ≡ None
second_none None g is = is
second_none (Some fault) g is = cc

line_none : (line : ℕ) (named : Bool) (o : Option PolicyFault) → option_map (λ _. Line line (lines.NoCell named)) o ≡ None → o ≡ None
line_none line named None is = refl
line_none line named (Some fault) is = cc

rule_there : (sizes : Maps) (own : PortRule) → placed_rule_fault sizes own ≡ None → quota_fault sizes own.rule.quota ≡ None
rule_there sizes own none =
    line_none own.line own.named (quota_fault sizes own.rule.quota)
    (fault_after (is_reversed own) (Line own.line lines.RuleOrder) (option_map (λ _. Line own.line (lines.NoCell own.named)) (quota_fault sizes own.rule.quota)) none)

range_then : (reversed : Option ℕ) (line : ℕ) (rest : Option TextFault) → (if is_before reversed line then reversed_fault reversed else rest) ≡ None → rest ≡ None
range_then None line rest is = is
range_then (Some at) line rest is = fault_after (nat_lt at line) (Line at lines.RangeOrder) rest is

reported_have : (sizes : Maps) (reversed : Option ℕ) (rules : List PortRule) → placed_rules_fault sizes reversed rules ≡ None → HaveCells sizes rules
reported_have sizes reversed [] none = All-nil (IsThere sizes)
reported_have sizes reversed (own ∷ rules) none =
    let both : option_or (placed_rule_fault sizes own) (placed_rules_fault sizes reversed rules) ≡ None = range_then reversed own.line (option_or (placed_rule_fault sizes own) (placed_rules_fault sizes reversed rules)) none in
    All-cons (IsThere sizes) own rules (rule_there sizes own (first_none (placed_rule_fault sizes own) (placed_rules_fault sizes reversed rules) both))
    (reported_have sizes reversed rules (second_none (placed_rule_fault sizes own) (placed_rules_fault sizes reversed rules) both))

-- the maps have the cells of a table without a fault
pub policy_cells : (sizes : Maps) (policy : PolicyValue) → policy_fault sizes policy ≡ None → HaveCells sizes policy.rules
policy_cells sizes policy none =
    reported_have sizes policy.reversed policy.rules (second_none (length_fault policy.version policy.rules) (placed_rules_fault sizes policy.reversed policy.rules) none)

-- ---- room

field_most : (field : Option ℕ) → field_slots field ≤ 2
field_most None = omega arith
field_most (Some wanted) = omega arith

kind_most : (kind : RuleKind) → kind_slots kind ≤ 3
kind_most Any = omega arith
kind_most Read = omega arith
kind_most Write = omega arith
kind_most Rmw = omega arith

quota_most : (quota : Option Quota) → quota_slots quota ≤ 5
quota_most None = omega arith
quota_most (Some quota) = omega arith

rules_most : (rules : List PortRule) → rules_slots rules ≤ 22 * length rules
rules_most [] = omega arith
rules_most (own ∷ rules) =
    omega (arith, rules_most rules, field_most own.port, kind_most own.rule.kind, field_most own.rule.key, field_most own.rule.initiator, field_most own.rule.extended, quota_most own.rule.quota)

port_most : (t : Bool) → (if t then 1 else 0) ≤ 1
port_most true = omega arith
port_most false = omega arith

-- twelve rules have room
pub few_fit : (rules : List PortRule) → length rules ≤ 12 → table_slots rules ≤ 512
few_fit rules short = omega (arith, rules_most rules, port_most (asks_ports rules), short)

-- a rule has room
rule_room : (t : Bool) (fault : TextFault) (rest : Option TextFault) → option_or (if t then Some fault else None) rest ≡ None → t ≡ false
rule_room true fault rest is = cc
rule_room false fault rest is = refl

-- and so have those after it
rest_room : (t : Bool) (fault : TextFault) (r : Room) (rest : Option Room → Option TextFault) → option_or (if t then Some fault else None) (rest (if t then None else Some r)) ≡ None → rest (Some r) ≡ None
rest_room true fault r rest is = cc
rest_room false fault r rest is = is

-- rules of version 1 that have room
ones_fit : (rules : List PortRule) (r : Room) → length_from One (Some r) rules ≡ None → length rules ≤ r.left
ones_fit [] r none = omega arith
ones_fit (own ∷ rules) r none =
    let some : is_too_much One r own ≡ false = rule_room (is_too_much One r own) (Line own.line (too_many One r own)) (length_from One (room_after One (Some r) own) rules) none in
    let rest : length_from One (Some (room_left One r own)) rules ≡ None = rest_room (is_too_much One r own) (Line own.line (too_many One r own)) (room_left One r own) (λ left. length_from One left rules) none in
    let fit : length rules ≤ r.left - 1 = ones_fit rules (room_left One r own) rest in
    omega (arith, ltb-false r.left 1 some, fit)

-- the slot that is still needed to put the port on the stack
abbrev port_wanted : (asks some : Bool) → ℕ
port_wanted true some = 0
port_wanted false some = if some then 1 else 0

port_first : (asks : Bool) (port : Option ℕ) (some : Bool) → port_wanted asks (is_some port || some) ≤ first_port_slots asks port + port_wanted (asks || is_some port) some
port_first true port some = omega arith
port_first false None some = omega arith
port_first false (Some wanted) some = omega arith

nothing_wanted : (asks : Bool) (left : ℕ) → port_wanted asks false + 0 ≤ left
nothing_wanted true left = omega arith
nothing_wanted false left = omega arith

-- rules of version 2 that have room
twos_fit : (rules : List PortRule) (r : Room) → length_from Two (Some r) rules ≡ None → port_wanted r.asks (asks_ports rules) + rules_slots rules ≤ r.left
twos_fit [] r none = nothing_wanted r.asks r.left
twos_fit (own ∷ rules) r none =
    let some : is_too_much Two r own ≡ false = rule_room (is_too_much Two r own) (Line own.line (too_many Two r own)) (length_from Two (room_after Two (Some r) own) rules) none in
    let rest : length_from Two (Some (room_left Two r own)) rules ≡ None = rest_room (is_too_much Two r own) (Line own.line (too_many Two r own)) (room_left Two r own) (λ left. length_from Two left rules) none in
    let taken : first_port_slots r.asks own.port + port_rule_slots own ≤ r.left = ltb-false r.left (room_taken Two r.asks own) some in
    let first : port_wanted r.asks (asks_ports (own ∷ rules)) ≤ first_port_slots r.asks own.port + port_wanted (r.asks || is_some own.port) (asks_ports rules) = port_first r.asks own.port (asks_ports rules) in
    let fit : port_wanted (r.asks || is_some own.port) (asks_ports rules) + rules_slots rules ≤ r.left - (first_port_slots r.asks own.port + port_rule_slots own) = twos_fit rules (room_left Two r own) rest in
    omega (arith, taken, first, fit)

version_fits : (version : TableVersion) (rules : List PortRule) → length_fault version rules ≡ None → table_slots rules ≤ 512
version_fits One rules none = few_fit rules (ones_fit rules (whole_room One) none)
version_fits Two rules none =
    let fit : port_slots rules + rules_slots rules ≤ 496 = twos_fit rules (whole_room Two) none in
    omega (arith, fit)

-- and so does a table without a fault
pub policy_fits : (sizes : Maps) (policy : PolicyValue) → policy_fault sizes policy ≡ None → table_slots policy.rules ≤ 512
policy_fits sizes policy none =
    version_fits policy.version policy.rules (first_none (length_fault policy.version policy.rules) (placed_rules_fault sizes policy.reversed policy.rules) none)

lines_long : (line : ℕ) (rules : List Rule) → length (on_lines line rules) ≡ length rules
lines_long line [] = refl
lines_long line (rule ∷ rules) = ap suc (lines_long (suc line) rules)

pub table_fits : (sizes : Maps) (rules : List Rule) → compile_fault sizes rules ≡ None → table_slots (on_lines 1 rules) ≤ 512
table_fits sizes rules none =
    let short : length (on_lines 1 rules) ≤ 12 = omega (arith, lines_long 1 rules, few sizes rules none) in
    few_fit (on_lines 1 rules) short

-- ---- rules that are asked at every port

-- at each port they are the rules
pub lines_at : (port line : ℕ) (rules : List Rule) → rules_at port (on_lines line rules) ≡ rules
lines_at port line [] = refl
lines_at port line (rule ∷ rules) = ap (λ (rs : List Rule). rule ∷ rs) (lines_at port (suc line) rules)
