-- The spans of commands on two stretches.
use Rattle.std.specs.Prelude.{◌≡◌, ◌<◌, ◌+◌, ◌^◌, ℕ, Bool, true}
use Rattle.rmap.specs.declared.kind.Kind.{Kind}
use Rattle.regions.specs.Points.{IsSpan, lies_on}
use Rattle.regions.specs.Regions.{is_one_of}
use Rattle.regions.specs.declared.regions.Kinds.{Kinds}
use Rattle.regions.specs.declared.spans.Reach.{Reach}
use Rattle.regions.specs.declared.stretches.Stretch.{Stretch}

-- the first address lies on one stretch, and the last on another
pub record LieOn (one other : Stretch) (first last : ℕ) : Type 0 where
  pub begins : lies_on one first ≡ true
  pub ends : lies_on other last ≡ true

-- no command of this kind lies there
abbrev pub HasNoSpan : Kind → (one other : Stretch) → Type 0
HasNoSpan kind one other = (first last : ℕ) → IsSpan kind first last → LieOn one other first last → ⊥

-- no command with this distance from its first address to its last lies there
abbrev pub HasNoneAt : (distance : ℕ) → (one other : Stretch) → Type 0
HasNoneAt distance one other = (first : ℕ) → first + distance < 2 ^ 32 → LieOn one other first (first + distance) → ⊥

-- a command of this kind lies so
pub record IsReach (kind : Kind) (one other : Stretch) (reach : Reach) : Type 0 where
  pub own : reach.kind ≡ kind
  pub span : IsSpan kind reach.first reach.last
  pub lies : LieOn one other reach.first reach.last

-- a command of this kind, which is wanted, lies so
pub record IsWantedReach (wanted : Bool) (kind : Kind) (one other : Stretch) (reach : Reach) : Type 0 where
  pub is_wanted : wanted ≡ true
  pub is_reach : IsReach kind one other reach

-- if this kind is wanted, no command of it lies there
abbrev pub HasNoWanted : (wanted : Bool) → Kind → (one other : Stretch) → Type 0
HasNoWanted wanted kind one other = wanted ≡ true → HasNoSpan kind one other

-- a command of one of these kinds lies so
pub record IsReachOf (kinds : Kinds) (one other : Stretch) (reach : Reach) : Type 0 where
  pub kind : is_one_of kinds reach.kind ≡ true
  pub span : IsSpan reach.kind reach.first reach.last
  pub lies : LieOn one other reach.first reach.last

-- no command of these kinds lies there
abbrev pub HasNoReach : Kinds → (one other : Stretch) → Type 0
HasNoReach kinds one other = (kind : Kind) → is_one_of kinds kind ≡ true → HasNoSpan kind one other
