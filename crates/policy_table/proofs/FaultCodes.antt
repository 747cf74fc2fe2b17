-- The numbers of the faults of lines.
use Rattle.std.specs.Prelude.{if◌then◌else◌, option_map, bytes_eq, codes}
use Rattle.std.specs.Option.{option_or}
use Rattle.std.proofs.Common.{◌≡◌, ◌++◌, ℕ, Bool, true, false, List, [], ◌∷◌, Option, Some, None, refl, sym, ap, ◌∙◌, subst, inl, inr}
use Rattle.std.proofs.lemmas.List.Folds.{find-append}
use Rattle.machine.specs.Sizes.{Maps}
use Rattle.policy_table.specs.PartialTables.{IsBad, IsBadTwo, IsNoStatement, line_words}
use Rattle.policy_table.specs.FirstFault.{quota_fault}
use Rattle.policy_table.specs.NoRules.{IsNoRule}
use Rattle.policy_table.specs.Policies.{is_reversed, reversed_fault, placed_rule_fault}
use Rattle.policy_table.specs.Ranges.{RangeText}
use Rattle.policy_table.specs.Refined.{begins_comment, fifth_word, is_joined_at, refined, third_word}
use Rattle.policy_table.specs.Room.{is_too_much, room_fault, too_many}
use Rattle.policy_table.specs.StatementFaults.{policy_fault_in}
use Rattle.policy_table.specs.Statements.{IsNoRange, IsNoRuleLine, statement_words}
use Rattle.policy_table.specs.Surveys.{first_text_fault, first_of_code, has_code, listed, reversed_at, statement_faults}
use Rattle.policy_table.specs.declared.partial_tables.TableStatement.{TableStatement}
use Rattle.policy_table.specs.declared.partial_tables.TableStatement.TheVariants as says
use Rattle.policy_table.specs.declared.faults.PolicyFault.{PolicyFault}
use Rattle.policy_table.specs.declared.faults.PolicyFault.TheVariants as faults
use Rattle.policy_table.specs.declared.port_rules.PortRule.{PortRule}
use Rattle.policy_table.specs.declared.room.Room.{Room}
use Rattle.policy_table.specs.declared.statement_faults.StatementFault.{StatementFault}
use Rattle.policy_table.specs.declared.statement_faults.StatementFault.TheVariants as wrong
use Rattle.policy_table.specs.declared.text_faults.TextFault.{TextFault}
use Rattle.policy_table.specs.declared.text_faults.TextFault.TheVariants.{Line}
use Rattle.policy_table.specs.declared.versions.TableVersion.{TableVersion}
use Rattle.policy_table.specs.declared.versions.TableVersion.TheVariants.{One, Two}

-- ---- a line that is none of its version

-- the fault is that of a line that is bad
abbrev IsOfLine : StatementFault → Type 0
IsOfLine fault = policy_fault_in fault ≡ faults.BadLine

rule_bad : (line : List ℕ) (fault : StatementFault) → IsNoRule line fault → IsOfLine fault
rule_bad line fault (inl bad) = ap policy_fault_in bad.1
rule_bad line fault (inr bad) = ap policy_fault_in bad.1

words_bad : (ranges : List RangeText) (words : List (List ℕ)) (fault : StatementFault) → IsNoRuleLine ranges words fault → IsOfLine fault
words_bad ranges words fault (inl bad) = ap policy_fault_in bad.0
words_bad ranges words fault (inr (inl bad)) = ap policy_fault_in bad.2
words_bad ranges words fault (inr (inr bad)) = ap policy_fault_in bad.1

range_bad : (ranges : List RangeText) (words : List (List ℕ)) (fault : StatementFault) → IsNoRange ranges words fault → IsOfLine fault
range_bad ranges words fault (inl bad) = ap policy_fault_in bad.0
range_bad ranges words fault (inr (inl bad)) = ap policy_fault_in bad.0
range_bad ranges words fault (inr (inr (inl bad))) = ap policy_fault_in bad.0
range_bad ranges words fault (inr (inr (inr (inl bad)))) = ap policy_fault_in bad.0
range_bad ranges words fault (inr (inr (inr (inr bad)))) = ap policy_fault_in bad.0

two_bad : (ranges : List RangeText) (words : List (List ℕ)) (fault : StatementFault) → IsBadTwo ranges words fault → IsOfLine fault
two_bad ranges [] fault bad = absurd bad
two_bad ranges (first ∷ rest) fault (inl version) = ap policy_fault_in version.1
two_bad ranges (first ∷ rest) fault (inr (inl range)) = range_bad ranges rest fault range.1
two_bad ranges (first ∷ rest) fault (inr (inr (inl other))) = ap policy_fault_in other.1
two_bad ranges (first ∷ rest) fault (inr (inr (inr rule))) = words_bad ranges (first ∷ rest) fault rule.1

line_bad : (version : TableVersion) (ranges : List RangeText) (text : List ℕ) (fault : StatementFault) → IsBad version ranges text fault → IsOfLine fault
line_bad One ranges text fault bad = rule_bad text fault bad
line_bad Two ranges text fault bad = two_bad ranges (statement_words text) fault bad

either : (t : Bool) (f g : StatementFault) → IsOfLine f → IsOfLine g → IsOfLine (if t then f else g)
either true f g h k = h
either false f g h k = k

refined_bad : (words : List (List ℕ)) (fault : StatementFault) → IsOfLine fault → IsOfLine (refined words fault)
refined_bad [] fault h = h
refined_bad (first ∷ rest) fault h =
    let joined : Bool → StatementFault → StatementFault = λ t f. if t then f else fault in
    let third : Bool = is_joined_at (third_word (first ∷ rest)) in
    let fifth : Bool = is_joined_at (fifth_word (first ∷ rest)) in
    either (begins_comment first) wrong.Comment (if bytes_eq first (codes ".range") then joined third wrong.RangeJoined else joined fifth wrong.RuleJoined) refl
    (either (bytes_eq first (codes ".range")) (joined third wrong.RangeJoined) (joined fifth wrong.RuleJoined)
    (either third wrong.RangeJoined fault refl h)
    (either fifth wrong.RuleJoined fault refl h))

-- the fault that is reported of a line that is none of its version
pub reported_bad : (version : TableVersion) (ranges : List RangeText) (text : List ℕ) (fault : StatementFault) → IsNoStatement version ranges text fault → IsOfLine fault
reported_bad version ranges text fault is =
    subst (λ (f : StatementFault). IsOfLine f) (sym is.reported) (refined_bad (line_words version text) is.bad (line_bad version ranges text is.bad is.is_bad))

code_five : (line : ℕ) (fault : StatementFault) (own : PolicyFault) → policy_fault_in fault ≡ own → own ≡ faults.BadLine → has_code 5 (Line line fault) ≡ true
code_five line fault own is bad = rw (is ∙ bad) refl

-- it is the first of a list of only it
pub bad_first : (line : ℕ) (fault : StatementFault) → IsOfLine fault → first_of_code 5 (Line line fault ∷ []) ≡ Some (Line line fault)
bad_first line fault is = rw (code_five line fault _ refl is) refl

-- ---- what a line says

room_five : (t : Bool) (version : TableVersion) (r : Room) (own : PortRule) → first_of_code 5 (listed (if t then Some (Line own.line (too_many version r own)) else None)) ≡ None
room_five true One r own = refl
room_five true Two r own = refl
room_five false version r own = refl

reported_five : (version : TableVersion) (room : Option Room) (own : PortRule) → first_of_code 5 (listed (room_fault version room own)) ≡ None
reported_five version None own = refl
reported_five version (Some r) own = room_five (is_too_much version r own) version r own

room_one : (t : Bool) (version : TableVersion) (r : Room) (own : PortRule) → first_of_code 1 (listed (if t then Some (Line own.line (too_many version r own)) else None)) ≡ (if t then Some (Line own.line (too_many version r own)) else None)
room_one true One r own = refl
room_one true Two r own = refl
room_one false version r own = refl

reported_one : (version : TableVersion) (room : Option Room) (own : PortRule) → first_of_code 1 (listed (room_fault version room own)) ≡ room_fault version room own
reported_one version None own = refl
reported_one version (Some r) own = room_one (is_too_much version r own) version r own

-- the fault of a rule that has room
abbrev cell_or_order : Bool → Option PolicyFault → PortRule → Option TextFault
cell_or_order t cell own = if t then Some (Line own.line wrong.RuleOrder) else option_map (λ _. Line own.line (wrong.NoCell own.named)) cell

rule_five : (t : Bool) (cell : Option PolicyFault) (own : PortRule) → first_of_code 5 (listed (cell_or_order t cell own)) ≡ None
rule_five true cell own = refl
rule_five false None own = refl
rule_five false (Some fault) own = refl

rule_one : (t : Bool) (cell : Option PolicyFault) (own : PortRule) → first_of_code 1 (listed (cell_or_order t cell own)) ≡ None
rule_one true cell own = refl
rule_one false None own = refl
rule_one false (Some fault) own = refl

-- ---- lists

-- the first of that number in two lists
pub code_append : (code : ℕ) (xs ys : List TextFault) → first_of_code code (xs ++ ys) ≡ option_or (first_of_code code xs) (first_of_code code ys)
code_append code xs ys = find-append (has_code code) xs ys

-- the first of two lists
pub first_append : (xs ys : List TextFault) → first_text_fault (xs ++ ys) ≡ option_or (first_text_fault xs) (first_text_fault ys)
first_append [] ys = refl
first_append (x ∷ xs) ys = refl

pub first_listed : (o : Option TextFault) → first_text_fault (listed o) ≡ o
first_listed None = refl
first_listed (Some fault) = refl

-- ---- what a line says, in all

own_five : (version : TableVersion) (sizes : Maps) (room : Option Room) (own : PortRule) → first_of_code 5 (listed (room_fault version room own) ++ listed (placed_rule_fault sizes own)) ≡ None
own_five version sizes room own =
    let rule : first_of_code 5 (listed (placed_rule_fault sizes own)) ≡ None = rule_five (is_reversed own) (quota_fault sizes own.rule.quota) own in
    code_append 5 (listed (room_fault version room own)) (listed (placed_rule_fault sizes own))
    ∙ ap (λ (o : Option TextFault). option_or o (first_of_code 5 (listed (placed_rule_fault sizes own)))) (reported_five version room own) ∙ rule

reversed_five : (line : ℕ) (reversed : Bool) → first_of_code 5 (listed (reversed_fault (reversed_at line reversed))) ≡ None
reversed_five line true = refl
reversed_five line false = refl

reversed_one : (line : ℕ) (reversed : Bool) → first_of_code 1 (listed (reversed_fault (reversed_at line reversed))) ≡ None
reversed_one line true = refl
reversed_one line false = refl

-- no line that says something is bad
pub statement_five : (version : TableVersion) (sizes : Maps) (room : Option Room) (line : ℕ) (statement : TableStatement) → first_of_code 5 (statement_faults version sizes room line statement) ≡ None
statement_five version sizes room line says.Nothing = refl
statement_five version sizes room line (says.Range range reversed) = reversed_five line reversed
statement_five version sizes room line (says.Rule own) = own_five version sizes room own

-- there is no room for the rule that it says, or there is
abbrev pub room_of : TableVersion → Option Room → TableStatement → Option TextFault
room_of version room says.Nothing = None
room_of version room (says.Range range reversed) = None
room_of version room (says.Rule own) = room_fault version room own

or_none : (o p : Option TextFault) → p ≡ None → option_or o p ≡ o
or_none None p is = is
or_none (Some fault) p is = refl

own_one : (version : TableVersion) (sizes : Maps) (room : Option Room) (own : PortRule) → first_of_code 1 (listed (room_fault version room own) ++ listed (placed_rule_fault sizes own)) ≡ room_fault version room own
own_one version sizes room own =
    code_append 1 (listed (room_fault version room own)) (listed (placed_rule_fault sizes own))
    ∙ or_none (first_of_code 1 (listed (room_fault version room own))) (first_of_code 1 (listed (placed_rule_fault sizes own))) (rule_one (is_reversed own) (quota_fault sizes own.rule.quota) own)
    ∙ reported_one version room own

pub statement_one : (version : TableVersion) (sizes : Maps) (room : Option Room) (line : ℕ) (statement : TableStatement) → first_of_code 1 (statement_faults version sizes room line statement) ≡ room_of version room statement
statement_one version sizes room line says.Nothing = refl
statement_one version sizes room line (says.Range range reversed) = reversed_one line reversed
statement_one version sizes room line (says.Rule own) = own_one version sizes room own
