-- A chart in pieces: the lines of the points of a region that lie in it.
use Rattle.std.specs.Prelude.{Bool, List, All}
use Rattle.policy_table.specs.declared.rules.Rule.{Rule}
use Rattle.regions.specs.Regions.{LiesWithin}
use Rattle.regions.specs.declared.regions.PointRegion.{PointRegion}
use Rattle.charts.specs.Lines.{IsChart}
use Rattle.charts.specs.declared.lines.ChartLine.{ChartLine}

-- the points of each line lie in a region
abbrev pub LieWithin : PointRegion → List ChartLine → Type 0
LieWithin asked lines = All (λ (line : ChartLine). LiesWithin line.region asked) lines

-- lines are the chart of the points of a region, and lie in it
pub record IsPiece (asked : PointRegion) (all : Bool) (old new : List Rule) (lines : List ChartLine) : Type 0 where
  pub within : LieWithin asked lines
  pub chart : IsChart asked all old new lines
