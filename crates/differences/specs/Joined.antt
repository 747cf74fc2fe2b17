-- Lines of a comparison that are joined.
use Rattle.std.specs.Prelude.{◌≡◌, ◌<◌, ◌⊎◌, List, [], ◌∷◌, length}
use Rattle.policy_table.specs.declared.rules.Rule.{Rule}
use Rattle.regions.specs.Points.{HasCommand}
use Rattle.regions.specs.declared.points.Point.{Point}
use Rattle.regions.specs.declared.regions.PointRegion.{PointRegion}
use Rattle.charts.specs.Lines.{IsComparison, decision_path, point_lines_of}
use Rattle.charts.specs.declared.lines.ChartLine.{ChartLine}

-- a point lies in only one line of each of two charts, and at the points of both lines the tables ask the same rules
pub record IsSaidByBoth (old new : List Rule) (one other : List ChartLine) (p : Point) : Type 0 where
  pub own : ChartLine
  pub its : ChartLine
  pub own_alone : point_lines_of [] one p ≡ own ∷ []
  pub its_alone : point_lines_of [] other p ≡ its ∷ []
  pub old_path : decision_path old own.point ≡ decision_path old its.point
  pub new_path : decision_path new own.point ≡ decision_path new its.point

-- it lies in no line of either
pub record IsSaidByNone (one other : List ChartLine) (p : Point) : Type 0 where
  pub own : point_lines_of [] one p ≡ []
  pub its : point_lines_of [] other p ≡ []

-- two charts say the same of each command: no line of either has it, or a line of each, with the same rules
abbrev pub SayTheSame : (old new : List Rule) → (one other : List ChartLine) → Type 0
SayTheSame old new one other =
    (p : Point) → HasCommand p → IsSaidByBoth old new one other p ⊎ IsSaidByNone one other p

-- fewer lines, and a comparison of two tables, too
pub record IsShorter (asked : PointRegion) (old new : List Rule) (one other : List ChartLine) : Type 0 where
  pub fewer : length other < length one
  pub is_comparison : IsComparison asked old new other
