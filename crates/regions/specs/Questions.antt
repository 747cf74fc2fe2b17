-- Questions that are answered alike at all points of a region.
use Rattle.std.specs.Prelude.{◌≡◌, ◌<◌, ℕ, Bool, true, List, All, get_or, length}
use Rattle.regions.specs.Points.{HasCommand}
use Rattle.regions.specs.Regions.{IsCommandIn, lies_in, meets_last}
use Rattle.regions.specs.declared.points.Point.{Point}
use Rattle.regions.specs.declared.regions.PointRegion.{PointRegion}

-- it holds at each point of the region that some command has
abbrev pub HoldsOn : (Point → Type 0) → PointRegion → Type 0
HoldsOn holds region = (p : Point) → HasCommand p → lies_in region p ≡ true → holds p

-- it holds at each point that some command has
abbrev pub HoldsAll : (Point → Type 0) → Type 0
HoldsAll holds = (p : Point) → HasCommand p → holds p

-- some command has the point, and there it fails
pub record IsFound (fails : Point → Type 0) (p : Point) : Type 0 where
  pub command : HasCommand p
  pub answer : fails p

-- the region has the points of the test of that number
pub record IsShapeAt (tests : List (Point → Bool)) (number : ℕ) (region : PointRegion) : Type 0 where
  pub there : number < length tests
  pub same : (d : Point → Bool) (p : Point) → HasCommand p → lies_in region p ≡ get_or tests number d p

-- a test has one outcome at both points
abbrev pub AreTestedAlike : (p q : Point) → (Point → Bool) → Type 0
AreTestedAlike p q test = test p ≡ test q

-- if all of the tests have one outcome at two points, what holds at one holds at the other
abbrev pub IsSettledBy : List (Point → Bool) → (Point → Type 0) → Type 0
IsSettledBy tests holds = (p q : Point) → HasCommand p → HasCommand q → All (AreTestedAlike p q) tests → holds q → holds p

-- a test has one outcome at all points of the region
abbrev pub IsUnmixed : PointRegion → (Point → Bool) → Type 0
IsUnmixed region test = (p q : Point) → IsCommandIn region p → IsCommandIn region q → AreTestedAlike p q test

-- so it is with the first `number` of the tests
abbrev pub IsCutBy : List (Point → Bool) → (number : ℕ) → PointRegion → Type 0
IsCutBy tests number region = (k : ℕ) (d : Point → Bool) → k < number → k < length tests → IsUnmixed region (get_or tests k d)

-- all points of the region meet the conditions of a shape, except the last `left` ones. The shape has the points of the
-- test of that number
pub record IsCutTo (tests : List (Point → Bool)) (number : ℕ) (shape : PointRegion) (left : ℕ) (region : PointRegion) : Type 0 where
  pub there : number < length tests
  pub same : (d : Point → Bool) (p : Point) → IsCommandIn region p → get_or tests number d p ≡ meets_last left shape p

-- so it is while sides are left
abbrev pub IsUnderWay : (tests : List (Point → Bool)) (number : ℕ) (shape : PointRegion) (left : ℕ) (region : PointRegion) → Type 0
IsUnderWay tests number shape left region = 0 < left → IsCutTo tests number shape left region

-- it holds at each point of a command at which the test of that number has the outcome true
abbrev pub HoldsWhere : (tests : List (Point → Bool)) → (holds : Point → Type 0) → (number : ℕ) → Type 0
HoldsWhere tests holds number =
    (d : Point → Bool) (p : Point) → HasCommand p → number < length tests → get_or tests number d p ≡ true → holds p
