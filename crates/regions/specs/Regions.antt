-- Regions of points, and what it is to cut one.
use Rattle.std.specs.Prelude.{◌≡◌, ◌==◌, ◌&&◌, if◌then◌else◌, ℕ, zero, suc, Bool, true, false, not, nat_le, nat_lt}
use Rattle.rmap.specs.declared.kind.Kind.{Kind}
use Rattle.rmap.specs.declared.kind.Kind.TheVariants as kind
use Rattle.regions.specs.ByteSets.{has_byte}
use Rattle.regions.specs.Points.{HasCommand}
use Rattle.regions.specs.declared.points.Point.{Point}
use Rattle.regions.specs.declared.regions.Kinds.{Kinds}
use Rattle.regions.specs.declared.regions.PointRegion.{PointRegion}
use Rattle.regions.specs.declared.sides.Side.{Side}
use Rattle.regions.specs.declared.sides.Side.TheVariants as side

-- whether a kind is one of these
abbrev pub is_one_of : Kinds → Kind → Bool
is_one_of kinds kind.Read = kinds.read
is_one_of kinds kind.Write = kinds.write
is_one_of kinds kind.Rmw = kinds.rmw
is_one_of kinds kind.Unused = false

-- whether both are, or both are not
abbrev pub is_same : (one other : Bool) → Bool
is_same one other = if one then other else not other

-- whether two sets have the same kinds
abbrev pub are_same_kinds : (one other : Kinds) → Bool
are_same_kinds one other = is_same one.read other.read && (is_same one.write other.write && is_same one.rmw other.rmw)

-- whether a point meets one condition of a region
abbrev pub meets : Side → PointRegion → Point → Bool
meets side.Kind region p = is_one_of region.kinds p.kind
meets side.Key region p = has_byte region.keys p.key
meets side.Initiator region p = has_byte region.initiators p.initiator
meets side.Extended region p = has_byte region.extended p.extended
meets side.FirstFrom region p = nat_le region.first.start p.first
meets side.FirstBefore region p = nat_lt p.first region.first.end
meets side.LastFrom region p = nat_le region.last.start p.last
meets side.LastBefore region p = nat_lt p.last region.last.end

-- the sides in turn, by how many are left, itself counted
abbrev pub side_of : (left : ℕ) → Side
side_of left =
    if left == 8 then side.Kind
    else if left == 7 then side.Key
    else if left == 6 then side.Initiator
    else if left == 5 then side.Extended
    else if left == 4 then side.FirstFrom
    else if left == 3 then side.FirstBefore
    else if left == 2 then side.LastFrom
    else side.LastBefore

-- whether a point meets the conditions of the last `left` sides
abbrev pub meets_last : (left : ℕ) → PointRegion → Point → Bool
meets_last zero region p = true
meets_last (suc left) region p = meets (side_of (suc left)) region p && meets_last left region p

-- whether a point lies in a region: it meets the conditions of all eight sides
abbrev pub lies_in : PointRegion → Point → Bool
lies_in region p = meets_last 8 region p

-- the points of a region that some command has
abbrev pub IsCommandIn : PointRegion → Point → Type 0
IsCommandIn region p = HasCommand p × (lies_in region p ≡ true)

-- no command has a point of the region
abbrev pub IsBare : PointRegion → Type 0
IsBare region = (p : Point) → HasCommand p → lies_in region p ≡ false

-- no command has a point that lies in both regions
abbrev pub AreApart : (one other : PointRegion) → Type 0
AreApart one other = (p : Point) → HasCommand p → lies_in one p ≡ true → lies_in other p ≡ true → ⊥

-- each kind that is in a set is in another
abbrev pub HasEachKind : (one other : Kinds) → Type 0
HasEachKind one other = (own : Kind) → is_one_of one own ≡ true → is_one_of other own ≡ true

-- each point of a region that some command has lies in another
abbrev pub LiesWithin : (one other : PointRegion) → Type 0
LiesWithin one other = (p : Point) → HasCommand p → lies_in one p ≡ true → lies_in other p ≡ true

-- a region is cut by a side of another into the points that meet its condition and those that do not
pub record AreCut (region shape : PointRegion) (side : Side) (inside outside : PointRegion) : Type 0 where
  pub met : (p : Point) → HasCommand p → lies_in inside p ≡ (lies_in region p && meets side shape p)
  pub unmet : (p : Point) → HasCommand p → lies_in outside p ≡ (lies_in region p && not (meets side shape p))
