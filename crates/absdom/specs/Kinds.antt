-- What is known of a register (a choice of this project): its kinds, which of them says more, and the
-- least kind above two.
use Rattle.std.specs.Prelude.{◌≡◌, ℕ, Bool, true, false, ◌==◌, if◌then◌else◌, Result, Ok, Err}
use Rattle.machine.specs.declared.regions.Region.{Region}
use Rattle.machine.specs.declared.regions.Region.TheVariants.{Front, Tail, Stack}
use Rattle.absdom_num.specs.Ranges.{IsWithin, joined_ranges}
use Rattle.absdom.specs.declared.cause.Cause.{Cause}
use Rattle.absdom.specs.declared.cause.Cause.TheVariants.{UnsetOperand, KindMismatch}
use Rattle.absdom.specs.declared.kinds.AbsKind.{AbsKind}
use Rattle.absdom.specs.declared.kinds.AbsKind.TheVariants.{Unset, Num, Ptr, Map}
use Rattle.absdom.specs.Offsets.{joined_offsets, AreAmong}

-- ---- the statement

-- whether two regions are the same
abbrev pub same_region : Region → Region → Bool
same_region Front Front = true
same_region Front Tail = false
same_region Front Stack = false
same_region Tail Front = false
same_region Tail Tail = true
same_region Tail Stack = false
same_region Stack Front = false
same_region Stack Tail = false
same_region Stack Stack = true

-- the first kind is contained in the second: every kind is below Unset
abbrev pub IsKindBelow : AbsKind → AbsKind → Type 0
IsKindBelow Unset Unset = Unit {0}
IsKindBelow Unset (Num b) = ⊥
IsKindBelow Unset (Ptr s b) = ⊥
IsKindBelow Unset (Map j) = ⊥
IsKindBelow (Num a) Unset = Unit {0}
IsKindBelow (Num a) (Num b) = IsWithin a b
IsKindBelow (Num a) (Ptr s b) = ⊥
IsKindBelow (Num a) (Map j) = ⊥
IsKindBelow (Ptr r a) Unset = Unit {0}
IsKindBelow (Ptr r a) (Num b) = ⊥
IsKindBelow (Ptr r a) (Ptr s b) = (same_region r s ≡ true) × AreAmong a b
IsKindBelow (Ptr r a) (Map j) = ⊥
IsKindBelow (Map i) Unset = Unit {0}
IsKindBelow (Map i) (Num b) = ⊥
IsKindBelow (Map i) (Ptr s b) = ⊥
IsKindBelow (Map i) (Map j) = i ≡ j

-- the range of a number, as an operand
abbrev pub number_of : AbsKind → Result (ℕ × ℕ) Cause
number_of Unset = Err UnsetOperand
number_of (Num range) = Ok range
number_of (Ptr region offsets) = Err KindMismatch
number_of (Map index) = Err KindMismatch

-- ---- what else contracts and proofs say

-- The least kind above both. For two numbers it is the least range that holds both, for two pointers into one region
-- the least offsets, for one map that map. For any other two kinds it is Unset.
abbrev pub joined_kinds : AbsKind → AbsKind → AbsKind
joined_kinds Unset b = Unset
joined_kinds (Num a) Unset = Unset
joined_kinds (Num a) (Num b) = Num (joined_ranges a b)
joined_kinds (Num a) (Ptr s b) = Unset
joined_kinds (Num a) (Map j) = Unset
joined_kinds (Ptr r a) Unset = Unset
joined_kinds (Ptr r a) (Num b) = Unset
joined_kinds (Ptr r a) (Ptr s b) = if same_region r s then Ptr r (joined_offsets a b) else Unset
joined_kinds (Ptr r a) (Map j) = Unset
joined_kinds (Map i) Unset = Unset
joined_kinds (Map i) (Num b) = Unset
joined_kinds (Map i) (Ptr s b) = Unset
joined_kinds (Map i) (Map j) = if i == j then Map i else Unset

-- the index of a map, as an operand
abbrev pub map_of : AbsKind → Result ℕ Cause
map_of Unset = Err UnsetOperand
map_of (Num range) = Err KindMismatch
map_of (Ptr region offsets) = Err KindMismatch
map_of (Map index) = Ok index
