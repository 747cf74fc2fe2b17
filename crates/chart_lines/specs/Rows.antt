-- The rows of charts as values: if lines of several ports say the same, they are one row.
use Rattle.std.specs.Prelude.{◌≡◌, ◌≢◌, ◌⊎◌, ◌<◌, ◌-◌, ℕ, Bool, MatchBool, List, [], ◌∷◌, ◌++◌, All, Option, Some, None, get_or, length, map, slice_index_or, slice_set}
use Rattle.regions.specs.Points.{HasCommand}
use Rattle.regions.specs.declared.regions.PointRegion.{PointRegion}
use Rattle.policy_table.specs.declared.rules.Rule.{Rule}
use Rattle.differences.specs.declared.decision_paths.AskedRule.{AskedRule}
use Rattle.chart_lines.specs.declared.rows.RowChange.{RowChange}

-- what a row says: the words of a line, whether it has the rest, and which rules a table asks, by their lines. In a
-- comparison it also says those of the new table, and how it differs
pub record RowContentValue : Type 0 where
  pub region : PointRegion
  pub rest : Bool
  pub decision_path : List AskedRule
  pub new : List AskedRule
  pub change : Option RowChange

-- of these parts
abbrev pub reported : PointRegion → (rest : Bool) → (decision_path new : List AskedRule) → Option RowChange → RowContentValue
reported region rest decision_path new change =
    record { region = region; rest = rest; decision_path = decision_path; new = new; change = change }

-- two rules want the same kind and the same bytes of fields
pub record WantSame (one other : Rule) : Type 0 where
  pub kind : one.kind ≡ other.kind
  pub key : one.key ≡ other.key
  pub initiator : one.initiator ≡ other.initiator
  pub extended : one.extended ≡ other.extended

-- two rules have the same range, the same quota and the same verdict
pub record EndSame (one other : Rule) : Type 0 where
  pub low : one.low ≡ other.low
  pub high : one.high ≡ other.high
  pub quota : one.quota ≡ other.quota
  pub verdict : one.verdict ≡ other.verdict

-- in a comparison the point is one that some command has
abbrev pub HasPoint : Option RowChange → Type 0
HasPoint None = Unit {0}
HasPoint (Some change) = HasCommand change.point

-- a row: the ports at which it holds, and what it says
pub record RowValue : Type 0 where
  pub ports : List ℕ
  pub reported : RowContentValue

-- of these parts
abbrev pub row_of : (ports : List ℕ) → RowContentValue → RowValue
row_of ports said = record { ports = ports; reported = said }

-- the line of the rule of this number, from 1, if rules are in these lines; 0 if there is none
abbrev pub rule_line_of : (lines : List ℕ) → (number : ℕ) → ℕ
rule_line_of lines number = slice_index_or lines (number - 1) 0

-- a rule by its line
abbrev pub on_line : (lines : List ℕ) → AskedRule → AskedRule
on_line lines step = record { number = rule_line_of lines step.number; rule = step.rule }

-- rules that are asked, by their lines
abbrev pub rules_on_lines : (lines : List ℕ) → List AskedRule → List AskedRule
rules_on_lines lines steps = map (on_line lines) steps

-- whether the row of a place says this
abbrev pub SaysAt : List RowValue → (place : ℕ) → RowContentValue → (says : Bool) → Type 0
SaysAt rows place said says =
    (d : RowValue) → MatchBool says ((get_or rows place d).reported ≡ said) ((get_or rows place d).reported ≢ said)

-- the row of a place says this, and holds at these ports too
pub record Joins (ports : List ℕ) (said : RowContentValue) (before after : List RowValue) : Type 0 where
  pub place : ℕ
  pub there : place < length before
  pub same : (d : RowValue) → (get_or before place d).reported ≡ said
  pub is : (d : RowValue) → after ≡ slice_set before place (row_of ((get_or before place d).ports ++ ports) said)

-- a row says this at these ports: the one that said it before, or one row more if none did
abbrev pub AddsRow : (ports : List ℕ) → RowContentValue → (before after : List RowValue) → Type 0
AddsRow ports said before after =
    Joins ports said before after
    ⊎ (All (λ (row : RowValue). row.reported ≢ said) before × (after ≡ before ++ row_of ports said ∷ []))
