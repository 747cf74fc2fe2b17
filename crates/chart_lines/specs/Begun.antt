-- Rows of which the last say the lines of one chart.
use Rattle.std.specs.Prelude.{◌≡◌, ◌≤◌, ◌<◌, ◌≢◌, ℕ, All, List, drop, length, get_or, map}
use Rattle.charts.specs.declared.lines.ChartLine.{ChartLine}
use Rattle.chart_lines.specs.Rows.{RowValue, RowContentValue}
use Rattle.chart_lines.specs.Reporting.{PrintsFirst}

-- what each row says
abbrev pub said_by : List RowValue → List RowContentValue
said_by rows = map (λ (row : RowValue). row.reported) rows

-- one of the first `count` lines of a chart has the words that are said
pub record IsOf (chart : List ChartLine) (count : ℕ) (said : RowContentValue) : Type 0 where
  pub place : ℕ
  pub before : place < count
  pub region : (d : ChartLine) → (get_or chart place d).region ≡ said.region
  pub rest : (d : ChartLine) → (get_or chart place d).rest ≡ said.rest

-- from a number on each row has the words of one of the first lines of a chart
pub record AreBegun (chart : List ChartLine) (count : ℕ) (from : ℕ) (rows : List RowValue) : Type 0 where
  pub longer : from ≤ length rows
  pub lines : All (IsOf chart count) (drop from (said_by rows))

-- the first `place` lines of a chart were reported after the first `from` rows
pub record HasReported (reports : (place : ℕ) → (before after : List RowValue) → Type 0) (place : ℕ) (from : ℕ) (rows : List RowValue) : Type 0 where
  pub first : List RowValue
  pub counted : from ≡ length first
  pub reported : PrintsFirst reports place first rows

-- no row from a number on says this
pub record SayOther (said : RowContentValue) (from : ℕ) (rows : List RowValue) : Type 0 where
  pub within : from ≤ length rows
  pub other : All (λ (row : RowValue). row.reported ≢ said) (drop from rows)
