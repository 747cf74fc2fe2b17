-- Regions at all points of which a question has one answer.
use Rattle.std.specs.Prelude.{◌≡◌, ◌⊎◌, ◌++◌, Bool, true, false, if◌then◌else◌, List, [], ◌∷◌, All}
use Rattle.regions.specs.Points.{HasCommand}
use Rattle.regions.specs.Questions.{AreTestedAlike}
use Rattle.regions.specs.Regions.{lies_in}
use Rattle.regions.specs.declared.cutting.Cell.{Cell}
use Rattle.regions.specs.declared.points.Point.{Point}
use Rattle.regions.specs.declared.regions.PointRegion.{PointRegion}

-- the cells in which a point lies
abbrev pub cells_at : List Cell → Point → List Cell
cells_at [] p = []
cells_at (cell ∷ cells) p = if lies_in cell.region p then cell ∷ cells_at cells p else cells_at cells p

-- the point is one of only one more cell. A command has the cell's point, at which the answer is no, and the tests have
-- the same outcomes at both
pub record IsInOneMore (tests : List (Point → Bool)) (fails : Point → Type 0) (old new : List Cell) (p : Point) : Type 0 where
  pub cell : Cell
  pub alone : cells_at new p ≡ cells_at old p ++ cell ∷ []
  pub command : HasCommand cell.point
  pub answer : fails cell.point
  pub same : All (AreTestedAlike p cell.point) tests

-- the point is one of one more cell, or of none, and then the answer there is yes
abbrev pub IsFiledAt : List (Point → Bool) → (holds fails : Point → Type 0) → (old new : List Cell) → Point → Type 0
IsFiledAt tests holds fails old new p = IsInOneMore tests fails old new p ⊎ ((cells_at new p ≡ cells_at old p) × holds p)

-- if the point lies in the region it is so, and else there is no cell more
abbrev pub IsFiledIf : (lies : Bool) → List (Point → Bool) → (holds fails : Point → Type 0) → (old new : List Cell) → Point → Type 0
IsFiledIf true tests holds fails old new p = IsFiledAt tests holds fails old new p
IsFiledIf false tests holds fails old new p = cells_at new p ≡ cells_at old p

-- the cells of a region are appended to some
abbrev pub IsFilled : List (Point → Bool) → (holds fails : Point → Type 0) → PointRegion → (old new : List Cell) → Type 0
IsFilled tests holds fails region old new = (p : Point) → HasCommand p → IsFiledIf (lies_in region p) tests holds fails old new p

-- each point that a command has is one of only one cell, or of none, and then the answer there is yes
abbrev pub AreCellsOf : List (Point → Bool) → (holds fails : Point → Type 0) → List Cell → Type 0
AreCellsOf tests holds fails cells = (p : Point) → HasCommand p → IsFiledAt tests holds fails [] cells p
