-- Two tables that decide all commands alike.
use Rattle.std.specs.Prelude.{◌≡◌, ℕ, true, List}
use Rattle.machine.specs.Memory.{Header, IsProgramHeader}
use Rattle.policy_table.specs.Meaning.{decision}
use Rattle.policy_table.specs.declared.rules.Rule.{Rule}
use Rattle.regions.specs.Points.{IsSpan}
use Rattle.regions.specs.Regions.{lies_in}
use Rattle.regions.specs.declared.points.Point.{Point}
use Rattle.regions.specs.declared.regions.PointRegion.{PointRegion}
use Rattle.charts.specs.Points.{IsDifference, header_point_of}
use Rattle.charts.specs.Tickets.{AreTicketsOfOne}

-- a header of a command that a node may bring to its table. Its kind is used. It has at most 4,096 bytes of data, or 0,
-- 2, 4, 6 or 8 if it is a read-modify-write. None of them is past the last address of 32 bits
pub record MayBeJudged (h : Header) : Type 0 where
  pub header : IsProgramHeader h
  pub span : IsSpan (header_point_of h).kind (header_point_of h).first (header_point_of h).last

-- two tables decide each such command alike if its point is in a region. Whatever tickets one of them gets, they make
-- the same draws and give the same verdict
abbrev pub AreSame : (asked : PointRegion) → (old new : List Rule) → Type 0
AreSame asked old new =
    (h : Header) → MayBeJudged h → lies_in asked (header_point_of h) ≡ true → (reported : ℕ → ℕ) → AreTicketsOfOne (decision old h reported).0 (decision new h reported).0
    → decision old h reported ≡ decision new h reported

-- some command has the point, which is in the region, and there two tables decide differently
pub record IsDifferenceIn (asked : PointRegion) (old new : List Rule) (p : Point) : Type 0 where
  pub lies : lies_in asked p ≡ true
  pub is : IsDifference old new p
