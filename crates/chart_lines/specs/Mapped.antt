-- The rows of a map.
use Rattle.std.specs.Prelude.{◌≡◌, ◌⊎◌, ℕ, List, [], ◌∷◌, get_or, length, Option, None, Some}
use Rattle.charts.specs.Lines.{IsMap}
use Rattle.charts.specs.Plain.{IsPlainLine}
use Rattle.charts.specs.declared.lines.ChartLine.{ChartLine}
use Rattle.differences.specs.Steps.{steps_at}
use Rattle.policy_table.specs.Policies.{PolicyValue}
use Rattle.policy_table.specs.PortTables.{is_named}
use Rattle.regions.specs.declared.regions.PointRegion.{PointRegion}
use Rattle.regions.specs.declared.points.Point.{Point}
use Rattle.chart_lines.specs.AskedTables.{AskedValue, asked_at}
use Rattle.chart_lines.specs.Ports.{AtPort, ports_for}
use Rattle.chart_lines.specs.Rows.{AddsRow, RowValue, RowContentValue, rules_on_lines, reported}
use Rattle.chart_lines.specs.Reporting.{PrintsFirst}
use Rattle.chart_lines.specs.Witnesses.{HasNoCommand, IsLineWitness}

-- a line of a map as a row says it: its words, and what the table asks at a point
abbrev pub map_line_text : AskedValue → ChartLine → Point → RowContentValue
map_line_text at line p = reported line.region line.rest (rules_on_lines at.lines (steps_at at.rules p)) [] None

-- the line of a place was reported for these ports, with what the table asks at one of its points; it is plain
pub record PrintsPoint (ports : List ℕ) (at : AskedValue) (lines : List ChartLine) (place : ℕ) (before after : List RowValue) : Type 0 where
  pub line : ChartLine
  pub own : (d : ChartLine) → get_or lines place d ≡ line
  pub point : Point
  pub witness : IsLineWitness lines place point
  pub plain : IsPlainLine lines line point
  pub row : AddsRow ports (map_line_text at line point) before after

-- the line of a place was reported, or no command has a point of it
abbrev pub PrintsLine : (ports : List ℕ) → AskedValue → List ChartLine → (place : ℕ) → (before after : List RowValue) → Type 0
PrintsLine ports at lines place before after =
    PrintsPoint ports at lines place before after ⊎ (HasNoCommand lines place × (after ≡ before))

-- each line of a map of the table that some command has was reported, in its order
pub record PrintsLines (asked : PointRegion) (ports : List ℕ) (at : AskedValue) (before after : List RowValue) : Type 0 where
  pub chart : List ChartLine
  pub is_map : IsMap asked at.rules chart
  pub reported : PrintsFirst (PrintsLine ports at chart) (length chart) before after

-- so it is for each of this many ports that has a chart, with the ports for which that chart holds
abbrev pub PrintsPorts : (asked : PointRegion) → PolicyValue → (count : ℕ) → (before after : List RowValue) → Type 0
PrintsPorts asked policy count before after =
    PrintsFirst (AtPort (λ port. is_named port policy.rules)
    (λ port. PrintsLines asked (ports_for (λ own. is_named own policy.rules) port) (asked_at policy port))) count before after

-- the rows of a map of a table for the points of a region, at one port, or at each. Each line of a map of it that some
-- command has is in a row. The same at several ports is one row, with these ports
abbrev pub AreMapRows : (asked : PointRegion) → (port : Option ℕ) → PolicyValue → List RowValue → Type 0
AreMapRows asked None policy rows = PrintsPorts asked policy 32 [] rows
AreMapRows asked (Some port) policy rows = PrintsLines asked (port ∷ []) (asked_at policy port) [] rows
