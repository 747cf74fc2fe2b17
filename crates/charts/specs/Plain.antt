-- How the lines of a chart are read in their order, and what a line is of which some command has a point.
use Rattle.std.specs.Prelude.{◌≡◌, ◌<◌, ◌^◌, ℕ, Bool, false, true, if◌then◌else◌, List, [], ◌∷◌, Option, Some, None, get_or, length, min, take}
use Rattle.policy_table.specs.declared.rules.Rule.{Rule}
use Rattle.regions.specs.Points.{HasCommand}
use Rattle.regions.specs.Regions.{lies_in}
use Rattle.regions.specs.declared.points.Point.{Point}
use Rattle.regions.specs.declared.regions.PointRegion.{PointRegion}
use Rattle.regions.specs.declared.stretches.Stretch.{Stretch}
use Rattle.charts.specs.Lines.{IsChart, decision_path, has_point, is_reported, point_lines_of}
use Rattle.charts.specs.declared.lines.ChartLine.{ChartLine}

-- the first line in whose region a point lies, no matter which lines have the rest
abbrev pub first_with : List ChartLine → Point → Option ChartLine
first_with [] p = None
first_with (line ∷ lines) p = if lies_in line.region p then Some line else first_with lines p

-- some address of 32 bits lies on the stretch: it starts before it ends, and at an address
abbrev pub HasAddress : Stretch → Type 0
HasAddress stretch = stretch.start < min stretch.end (2 ^ 32)

-- the line has the point, which lies in no other line. Addresses of 32 bits lie on both of its stretches, so one reads
-- it as it is
pub record IsPlainLine (lines : List ChartLine) (line : ChartLine) (p : Point) : Type 0 where
  pub first : HasAddress line.region.first
  pub last : HasAddress line.region.last
  pub alone : point_lines_of [] lines p ≡ line ∷ []

-- the lines of a chart are read in their order. If a point is reported, it lies in the first line whose words have it,
-- with the courses of the tables there. If it is not reported, the words of no line have it
pub record ChartsAreRead : Type 0 where
  pub reported : (asked : PointRegion) (all : Bool) (old new : List Rule) (lines : List ChartLine) → IsChart asked all old new lines → (p : Point) → HasCommand p
      → is_reported asked all old new p ≡ true
      → (line : ChartLine) × (first_with lines p ≡ Some line) × (decision_path old p ≡ decision_path old line.point)
      × (decision_path new p ≡ decision_path new line.point)
  pub unreported : (asked : PointRegion) (all : Bool) (old new : List Rule) (lines : List ChartLine) → IsChart asked all old new lines → (p : Point) → HasCommand p
      → is_reported asked all old new p ≡ false → first_with lines p ≡ None

-- if the line of a place of a chart has a point of a command, it is plain
abbrev pub LinesArePlain : Type 0
LinesArePlain =
    (asked : PointRegion) (all : Bool) (old new : List Rule) (lines : List ChartLine) → IsChart asked all old new lines → (place : ℕ) (line : ChartLine)
    → place < length lines → ((d : ChartLine) → get_or lines place d ≡ line) → (p : Point) → HasCommand p → has_point (take place lines) line p ≡ true
    → IsPlainLine lines line p
