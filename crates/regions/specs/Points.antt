-- The part of a command that a rule looks at, and which such parts some command has.
use Rattle.std.specs.Prelude.{◌≡◌, ◌≤◌, ◌<◌, ◌-◌, ◌^◌, ◌==◌, ◌&&◌, ◌||◌, ℕ, Bool, true, false, nat_le, nat_lt}
use Rattle.rmap.specs.declared.kind.Kind.{Kind}
use Rattle.rmap.specs.declared.kind.Kind.TheVariants.{Read, Rmw, Unused, Write}
use Rattle.regions.specs.declared.points.Point.{Point}
use Rattle.regions.specs.declared.stretches.Stretch.{Stretch}

-- the distance from the first address to the last of a read-modify-write, whose length field is 0, 2, 4, 6 or 8
abbrev pub is_rmw_distance : ℕ → Bool
is_rmw_distance d = d == 0 || (d == 1 || (d == 3 || (d == 5 || d == 7)))

-- the distance from the first address to the last of a command of this kind that a node may bring to its table. It is
-- that of a read or a write with at most 4,096 bytes of data, or of a read-modify-write
abbrev pub is_distance : Kind → ℕ → Bool
is_distance Read d = nat_lt d 4096
is_distance Write d = nat_lt d 4096
is_distance Rmw d = is_rmw_distance d
is_distance Unused d = false

-- the first and the last address of such a command, none past the last of 32 bits
pub record IsSpan (kind : Kind) (first last : ℕ) : Type 0 where
  pub order : first ≤ last
  pub fits : last < 2 ^ 32
  pub distance : is_distance kind (last - first) ≡ true

-- some command that a node may bring to its table has this point
pub record HasCommand (p : Point) : Type 0 where
  pub key : p.key < 256
  pub initiator : p.initiator < 256
  pub extended : p.extended < 256
  pub span : IsSpan p.kind p.first p.last

-- whether an address lies on a stretch
abbrev pub lies_on : Stretch → ℕ → Bool
lies_on stretch address = nat_le stretch.start address && nat_lt address stretch.end

-- no address lies on both stretches
abbrev pub HaveNoAddress : (one other : Stretch) → Type 0
HaveNoAddress one other = (address : ℕ) → lies_on one address ≡ true → lies_on other address ≡ true → ⊥

-- each address that lies on a stretch lies on another
abbrev pub HasEachAddress : (one other : Stretch) → Type 0
HasEachAddress one other = (address : ℕ) → lies_on one address ≡ true → lies_on other address ≡ true
