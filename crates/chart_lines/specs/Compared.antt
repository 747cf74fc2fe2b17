-- The rows of a comparison.
use Rattle.std.specs.Prelude.{◌≡◌, ◌⊎◌, ℕ, List, [], ◌∷◌, get_or, length, Option, None, Some}
use Rattle.charts.specs.Lines.{IsComparison}
use Rattle.charts.specs.Plain.{IsPlainLine}
use Rattle.charts.specs.declared.lines.ChartLine.{ChartLine}
use Rattle.differences.specs.Gains.{IsSign}
use Rattle.differences.specs.Steps.{rules_of, steps_at}
use Rattle.differences.specs.declared.repeating.Repeats.{Repeats}
use Rattle.differences.specs.declared.signs.Sign.{Sign}
use Rattle.policy_table.specs.Policies.{PolicyValue}
use Rattle.regions.specs.declared.regions.PointRegion.{PointRegion}
use Rattle.regions.specs.declared.points.Point.{Point}
use Rattle.chart_lines.specs.AskedTables.{AskedValue, asked_at}
use Rattle.chart_lines.specs.Ports.{AtPort, is_named_by, ports_for}
use Rattle.chart_lines.specs.Rows.{AddsRow, RowValue, RowContentValue, rules_on_lines, reported}
use Rattle.chart_lines.specs.Reporting.{PrintsFirst}
use Rattle.chart_lines.specs.Witnesses.{HasNoCommand, IsLineWitness}
use Rattle.chart_lines.specs.declared.rows.RowChange.{RowChange}

-- how a new table differs at a point: with this sign, and how often a command must come
abbrev pub change_of : Sign → Repeats → Point → RowChange
change_of sign repeats p = record { sign = sign; repeats = repeats; point = p }

-- a line of a comparison as a row says it: its words, what each table asks at a point, and how the new one differs
abbrev pub difference_text : (old new : AskedValue) → ChartLine → Point → Sign → Repeats → RowContentValue
difference_text old new line p sign repeats =
    reported line.region line.rest (rules_on_lines old.lines (steps_at old.rules p)) (rules_on_lines new.lines (steps_at new.rules p))
    (Some (change_of sign repeats p))

-- a row says it so, with the sign of the rules that are asked there. How often a command must come is left open
pub record IsDifferenceAt (old new : AskedValue) (line : ChartLine) (p : Point) (said : RowContentValue) : Type 0 where
  pub sign : Sign
  pub is_sign : IsSign sign (rules_of (steps_at old.rules p)) (rules_of (steps_at new.rules p))
  pub repeats : Repeats
  pub is : said ≡ difference_text old new line p sign repeats

-- the line of a place was reported for these ports, with one of its points, and what two tables ask there; it is plain
pub record PrintsPoint (ports : List ℕ) (old new : AskedValue) (lines : List ChartLine) (place : ℕ) (before after : List RowValue) : Type 0 where
  pub line : ChartLine
  pub own : (d : ChartLine) → get_or lines place d ≡ line
  pub point : Point
  pub witness : IsLineWitness lines place point
  pub plain : IsPlainLine lines line point
  pub said : RowContentValue
  pub is_difference : IsDifferenceAt old new line point said
  pub row : AddsRow ports said before after

-- the line of a place was reported, or no command has a point of it
abbrev pub PrintsLine : (ports : List ℕ) → (old new : AskedValue) → List ChartLine → (place : ℕ) → (before after : List RowValue) → Type 0
PrintsLine ports old new lines place before after =
    PrintsPoint ports old new lines place before after ⊎ (HasNoCommand lines place × (after ≡ before))

-- each line of a comparison of two tables that some command has was reported, in its order
pub record PrintsLines (asked : PointRegion) (ports : List ℕ) (old new : AskedValue) (before after : List RowValue) : Type 0 where
  pub chart : List ChartLine
  pub is_comparison : IsComparison asked old.rules new.rules chart
  pub reported : PrintsFirst (PrintsLine ports old new chart) (length chart) before after

-- so it is for each of this many ports that has a chart, with the ports for which that chart holds
abbrev pub PrintsPorts : (asked : PointRegion) → (old new : PolicyValue) → (count : ℕ) → (before after : List RowValue) → Type 0
PrintsPorts asked old new count before after =
    PrintsFirst (AtPort (λ port. is_named_by old new port)
    (λ port. PrintsLines asked (ports_for (λ own. is_named_by old new own) port) (asked_at old port) (asked_at new port))) count before after

-- the rows of a comparison of two tables for the points of a region, at one port, or at each. Each line of one that
-- some command has is in a row. The same at several ports is one row, with these ports
abbrev pub AreDifferenceRows : (asked : PointRegion) → (port : Option ℕ) → (old new : PolicyValue) → List RowValue → Type 0
AreDifferenceRows asked None old new rows = PrintsPorts asked old new 32 [] rows
AreDifferenceRows asked (Some port) old new rows =
    PrintsLines asked (port ∷ []) (asked_at old port) (asked_at new port) [] rows
