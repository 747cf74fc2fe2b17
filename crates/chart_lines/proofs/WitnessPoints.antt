-- The points of the line of a place.
use Rattle.std.proofs.Common.{◌≡◌, ◌&&◌, ℕ, Bool, true, false, List, Option, Some, None, refl}
use Rattle.std.specs.Prelude.{MatchOption}
use Rattle.regions.specs.Points.{HasCommand}
use Rattle.regions.specs.Regions.{lies_in}
use Rattle.regions.specs.declared.points.Point.{Point}
use Rattle.regions.specs.declared.regions.PointRegion.{PointRegion}
use Rattle.charts.specs.Rests.{HasNoPointIn, IsPointIn}
use Rattle.charts.specs.declared.lines.ChartLine.{ChartLine}
use Rattle.chart_lines.specs.Witnesses.{HasNoCommand, IsLineWitness}

first_of_both : (s t : Bool) → (s && t) ≡ true → s ≡ true
first_of_both true t e = refl
first_of_both false t e = absurd (cc)

-- two that are not true together are not both true
not_both : (s t : Bool) → (s && t) ≡ false → s ≡ true → t ≡ true → ⊥
not_both true true e h k = absurd (cc)
not_both true false e h k = absurd (cc)
not_both false t e h k = absurd (cc)

-- a point that was found in a region is one of the line
pub found_witness : (lines : List ChartLine) (place : ℕ) (within : PointRegion) (p : Point) → IsPointIn lines place within p → IsLineWitness lines place p
found_witness lines place within p found = record {
  command = found.command;
  lies = λ d. first_of_both _ (lies_in within p) (found.lies d);
}

-- if none was found among all points, there is none
pub no_witness : (lines : List ChartLine) (place : ℕ) (all : PointRegion) → ((p : Point) → HasCommand p → lies_in all p ≡ true)
    → HasNoPointIn lines place all → HasNoCommand lines place
no_witness lines place all whole none p witness =
    let d : ChartLine = record { region = all; rest = false; point = p } in
    not_both _ (lies_in all p) (none d p witness.command) (witness.lies d) (whole p witness.command)

-- the result of the search among all points
pub witness_or_none : (lines : List ChartLine) (place : ℕ) (all : PointRegion) (found : Option Point) → ((p : Point) → HasCommand p → lies_in all p ≡ true)
    → MatchOption found (HasNoPointIn lines place all) (IsPointIn lines place all) → MatchOption found (HasNoCommand lines place) (IsLineWitness lines place)
witness_or_none lines place all None whole none = no_witness lines place all whole none
witness_or_none lines place all (Some p) whole is = found_witness lines place all p is
