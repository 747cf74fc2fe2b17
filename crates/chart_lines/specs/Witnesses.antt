-- The points of the line of a place.
use Rattle.std.specs.Prelude.{◌≡◌, ℕ, All, false, true, List, get_or, take}
use Rattle.regions.specs.Points.{HasCommand}
use Rattle.regions.specs.declared.points.Point.{Point}
use Rattle.charts.specs.Lines.{has_point, have_same_words}
use Rattle.charts.specs.declared.lines.ChartLine.{ChartLine}

-- the line of that place, from 0 on, has the point, and some command does
pub record IsLineWitness (lines : List ChartLine) (place : ℕ) (p : Point) : Type 0 where
  pub command : HasCommand p
  pub lies : (d : ChartLine) → has_point (take place lines) (get_or lines place d) p ≡ true

-- no command has a point of the line of that place
abbrev pub HasNoCommand : List ChartLine → (place : ℕ) → Type 0
HasNoCommand lines place = (p : Point) → IsLineWitness lines place p → ⊥

-- the first `count` lines have other words than that of a place
abbrev pub AreOthers : List ChartLine → (place : ℕ) → (count : ℕ) → Type 0
AreOthers lines place count =
    (d : ChartLine) → All (λ (other : ChartLine). have_same_words other.region (get_or lines place d).region ≡ false) (take count lines)
