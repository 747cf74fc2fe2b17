-- All faults of a table.
use Rattle.std.specs.Prelude.{◌≡◌, ◌⊎◌, ℕ, suc, Bool, true, false, ◌&&◌, ◌==◌, bytes_eq, is_none, if◌then◌else◌}
use Rattle.std.specs.Prelude.{List, [], ◌∷◌, ◌++◌, codes, Option, Some, None}
use Rattle.std.specs.List.{find}
use Rattle.std.specs.Option.{option_or}
use Rattle.machine.specs.Sizes.{Maps}
use Rattle.policy_table.specs.Codes.{policy_fault_code}
use Rattle.policy_table.specs.PartialTables.{PartialTableValue, IsNoStatement, IsStatement, after, partial_table, empty_partial_table, line_words}
use Rattle.policy_table.specs.Policies.{IsPolicyFault, PolicyValue, ReadingValue, WritesPolicy, policy_fault}
use Rattle.policy_table.specs.Policies.{policy_reading_of, reversed_fault, placed_rule_fault}
use Rattle.policy_table.specs.Ranges.{RangeText, is_range_name, range_named}
use Rattle.policy_table.specs.Room.{room_after, room_fault, whole_room}
use Rattle.policy_table.specs.TextFaults.{text_fault_of}
use Rattle.policy_table.specs.declared.partial_tables.TableStatement.{TableStatement}
use Rattle.policy_table.specs.declared.partial_tables.TableStatement.TheVariants.{Nothing, Range, Rule}
use Rattle.policy_table.specs.declared.room.Room.{Room}
use Rattle.policy_table.specs.declared.statement_faults.StatementFault.{StatementFault}
use Rattle.policy_table.specs.declared.text_faults.TextFault.{TextFault}
use Rattle.policy_table.specs.declared.text_faults.TextFault.TheVariants.{Line}
use Rattle.policy_table.specs.declared.versions.TableVersion.{TableVersion}

-- what lines said so far, the room that is left, and their faults
pub record SurveyValue : Type 0 where
  pub partial_table : PartialTableValue
  pub room : Option Room
  pub faults : List TextFault

-- of these parts
abbrev pub survey : PartialTableValue → Option Room → List TextFault → SurveyValue
survey said room faults = record { partial_table = said; room = room; faults = faults }

-- no line
abbrev pub empty_survey : TableVersion → SurveyValue
empty_survey version = survey empty_partial_table (Some (whole_room version)) []

-- as a list
abbrev pub listed : Option TextFault → List TextFault
listed None = []
listed (Some fault) = fault ∷ []

-- ---- one line

-- the range of this line, if it ends before it begins
abbrev pub reversed_at : (line : ℕ) → (reversed : Bool) → Option ℕ
reversed_at line true = Some line
reversed_at line false = None

-- the faults of what a line says. A range may end before it begins. For a rule there may be no room, its range may end
-- before it begins, or its quota may have no cell
abbrev pub statement_faults : TableVersion → Maps → Option Room → (line : ℕ) → TableStatement → List TextFault
statement_faults version sizes room line Nothing = []
statement_faults version sizes room line (Range range reversed) = listed (reversed_fault (reversed_at line reversed))
statement_faults version sizes room line (Rule own) =
    listed (room_fault version room own) ++ listed (placed_rule_fault sizes own)

-- the room after what a line says
abbrev pub room_after_line : TableVersion → Option Room → TableStatement → Option Room
room_after_line version room Nothing = room
room_after_line version room (Range range reversed) = room
room_after_line version room (Rule own) = room_after version room own

-- a line that says this
abbrev pub with_statement : TableVersion → Maps → (line : ℕ) → TableStatement → SurveyValue → SurveyValue
with_statement version sizes line statement s =
    survey (after line statement s.partial_table) (room_after_line version s.room statement)
    (s.faults ++ statement_faults version sizes s.room line statement)

-- a range of all addresses that has the name
abbrev pub whole_named_range : (name : List ℕ) → RangeText
whole_named_range name = record { name = name; low = codes "00000000"; high = codes "FFFFFFFF" }

-- the range of all addresses with the new name that the words of a line give, if they give one, whatever is wrong with
-- the line. So no rule below that has the name is at fault for it
abbrev pub named_by : List RangeText → (words : List (List ℕ)) → Option RangeText
named_by ranges [] = None
named_by ranges (first ∷ []) = None
named_by ranges (first ∷ name ∷ rest) =
    if bytes_eq first (codes ".range") && (is_range_name name && is_none (range_named ranges name))
    then Some (whole_named_range name)
    else None

-- one range more, or none
abbrev pub with_named : Option RangeText → PartialTableValue → PartialTableValue
with_named None d = d
with_named (Some range) d = partial_table (d.ranges ++ range ∷ []) d.reversed d.rules

-- a line that is no statement, because of this fault
abbrev pub with_bad : TableVersion → (line : ℕ) → (text : List ℕ) → StatementFault → SurveyValue → SurveyValue
with_bad version line text fault s =
    survey (with_named (named_by s.partial_table.ranges (line_words version text)) s.partial_table) s.room (s.faults ++ Line line fault ∷ [])

-- the line of this number says this
pub record FindsStatement (version : TableVersion) (sizes : Maps) (line : ℕ) (text : List ℕ) (old new : SurveyValue)
    : Type 0 where
  pub statement : TableStatement
  pub is : IsStatement version old.partial_table.ranges line text statement
  pub found : new ≡ with_statement version sizes line statement old

-- the line of this number is no statement, because of this fault
pub record FindsBad (version : TableVersion) (line : ℕ) (text : List ℕ) (old new : SurveyValue) : Type 0 where
  pub fault : StatementFault
  pub is : IsNoStatement version old.partial_table.ranges text fault
  pub found : new ≡ with_bad version line text fault old

-- the faults of the line of this number are found
abbrev pub FindsLine : TableVersion → Maps → (line : ℕ) → (text : List ℕ) → (old new : SurveyValue) → Type 0
FindsLine version sizes line text old new =
    FindsStatement version sizes line text old new ⊎ FindsBad version line text old new

-- ---- all lines

-- the faults of these lines are found, of which the first has this number
abbrev pub FindsLines : TableVersion → Maps → (line : ℕ) → List (List ℕ) → (old new : SurveyValue) → Type 0
FindsLines version sizes line [] old new = new ≡ old
FindsLines version sizes line (text ∷ lines) old new =
    (next : SurveyValue) × FindsLine version sizes line text old next × FindsLines version sizes (suc line) lines next new

-- the faults of lines that are read so
pub record HasFaults (sizes : Maps) (how : ReadingValue) (faults : List TextFault) : Type 0 where
  pub end : SurveyValue
  pub found : FindsLines how.version sizes (suc how.before) how.lines (empty_survey how.version) end
  pub are : faults ≡ end.faults

-- these are all faults of the lines, in their order, for maps of these sizes
abbrev pub AreFaults : Maps → (lines : List (List ℕ)) → List TextFault → Type 0
AreFaults sizes lines faults = HasFaults sizes (policy_reading_of lines) faults

-- ---- the fault that is reported

-- the number of the fault
abbrev pub has_code : ℕ → TextFault → Bool
has_code code fault = policy_fault_code (text_fault_of fault) == code

-- the first fault of that number
abbrev pub first_of_code : ℕ → List TextFault → Option TextFault
first_of_code code faults = find (has_code code) faults

-- the first fault
abbrev pub first_text_fault : List TextFault → Option TextFault
first_text_fault [] = None
first_text_fault (fault ∷ faults) = Some fault

-- the fault that is reported. It is the first line that is none of its version (5), else the first rule for which there
-- is no room (1), else the first
abbrev pub reported_fault : List TextFault → Option TextFault
reported_fault faults = option_or (first_of_code 5 faults) (option_or (first_of_code 1 faults) (first_text_fault faults))

-- it is the fault of the lines for maps of these sizes, and there is none if they are a table without a fault
abbrev pub IsReported : Maps → (lines : List (List ℕ)) → Option TextFault → Type 0
IsReported sizes lines None = (policy : PolicyValue) × WritesPolicy lines policy × (policy_fault sizes policy ≡ None)
IsReported sizes lines (Some fault) = IsPolicyFault sizes lines fault
