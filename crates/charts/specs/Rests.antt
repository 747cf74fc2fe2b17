-- The points of a line that lie in a region.
use Rattle.std.specs.Prelude.{◌≡◌, ◌&&◌, ◌++◌, ℕ, Bool, false, true, List, [], ◌∷◌, get_or, map, take}
use Rattle.regions.specs.Points.{HasCommand}
use Rattle.regions.specs.Regions.{lies_in}
use Rattle.regions.specs.declared.points.Point.{Point}
use Rattle.regions.specs.declared.regions.PointRegion.{PointRegion}
use Rattle.charts.specs.Lines.{has_point, have_same_words, is_left}
use Rattle.charts.specs.declared.lines.ChartLine.{ChartLine}

-- whether a point lies in a region, and in none of those of the lines with the same words
abbrev pub is_left_in : (before : List ChartLine) → ChartLine → PointRegion → Point → Bool
is_left_in before line region p = lies_in region p && is_left before line p

-- the tests that settle it
abbrev pub rest_tests : (before : List ChartLine) → ChartLine → PointRegion → List (Point → Bool)
rest_tests before line region = map (λ other p. have_same_words other.region line.region && lies_in other.region p) before ++ lies_in region ∷ []

-- whether the line of a place has a point, which lies in the region
abbrev pub is_point_in : List ChartLine → (place : ℕ) → PointRegion → (d : ChartLine) → Point → Bool
is_point_in lines place within d p = has_point (take place lines) (get_or lines place d) p && lies_in within p

-- no command has a point of the region that the line of the place has
abbrev pub HasNoPointIn : List ChartLine → (place : ℕ) → PointRegion → Type 0
HasNoPointIn lines place within = (d : ChartLine) (p : Point) → HasCommand p → is_point_in lines place within d p ≡ false

-- some command has the point, which lies in the region, and the line of the place has it
pub record IsPointIn (lines : List ChartLine) (place : ℕ) (within : PointRegion) (p : Point) : Type 0 where
  pub command : HasCommand p
  pub lies : (d : ChartLine) → is_point_in lines place within d p ≡ true
