-- What is known at a slot: of each register, and of each byte and each word of the stack (a choice of
-- this project).
use Rattle.std.specs.Prelude.{◌≡◌, ℕ, ◌*◌, Bool, false, List, [], ◌∷◌, length, pos, slice_index_or, slice_set, ◌≤ℤ◌}
use Rattle.machine.specs.declared.regions.Region.TheVariants.{Front, Tail, Stack}
use Rattle.machine.specs.declared.regions.TheConstants.{STACK_SIZE}
use Rattle.bpf_parts.specs.declared.operation.Width.TheVariants.{Bits64}
use Rattle.absdom_num.specs.declared.ranges.Range.{Range}
use Rattle.absdom_num.specs.Ranges.{IsRange}
use Rattle.absdom_num.specs.Tables.{whole_range}
use Rattle.absdom.specs.declared.kinds.AbsKind.{AbsKind}
use Rattle.absdom.specs.declared.kinds.AbsKind.TheVariants.{Unset, Num, Ptr, Map}
use Rattle.absdom.specs.Kinds.{joined_kinds, IsKindBelow}
use Rattle.absdom_stack.specs.Marks.{mark_at, all_marked, AreInBoth, AreMarkedIn}
use Rattle.absdom_stack.specs.StackWords.{range_in, AreAllWhole, AreRangesJoined, AreRangesWithin}

-- ---- the statement

-- A kind for each register, and a mark for each byte of the stack that is known to be set. Each word of eight bytes
-- has the range of its number.
pub record StateValue : Type 0 where
  pub kinds : List AbsKind
  pub marks : List Bool
  pub ranges : List Range

-- of eleven registers, 512 bytes and 64 words
pub record IsState (a : StateValue) : Type 0 where
  pub registers : length a.kinds ≡ 11
  pub bytes : length a.marks ≡ STACK_SIZE
  pub words : length a.ranges ≡ 64

-- the kind of a register in a list of kinds
abbrev pub kind_in : List AbsKind → (register : ℕ) → AbsKind
kind_in kinds register = slice_index_or kinds register Unset

-- what is known of a register
abbrev pub kind_at : StateValue → (register : ℕ) → AbsKind
kind_at a register = kind_in a.kinds register

-- what is known of the number in a word of the stack
abbrev pub range_at : StateValue → (word : ℕ) → Range
range_at a word = range_in a.ranges word

-- the ends of a range, or of offsets, are in order
abbrev pub IsProper : AbsKind → Type 0
IsProper Unset = Unit {0}
IsProper (Num range) = IsRange range
IsProper (Ptr region offsets) = offsets.0 ≤ℤ offsets.1
IsProper (Map index) = Unit {0}

-- What holds of every state. It has eleven registers, each of a proper kind, 512 bytes, and 64 words, each with a
-- range whose ends are in order. If not all eight bytes of a word are set, nothing is known of the word.
pub record IsWhole (a : StateValue) : Type 0 where
  pub sizes : IsState a
  pub kinds : (register : ℕ) → IsProper (kind_at a register)
  pub ranges : (word : ℕ) → IsRange (range_at a word)
  pub unset : (word : ℕ) → all_marked a.marks (8 * word) 8 ≡ false → range_at a word ≡ whole_range Bits64

-- what is known after a write of a register
abbrev pub with_kind : StateValue → (register : ℕ) → AbsKind → StateValue
with_kind a register kind = record { kinds = slice_set a.kinds register kind; marks = a.marks; ranges = a.ranges }

-- what is known after a write of bytes of the stack
abbrev pub with_stack : StateValue → (marks : List Bool) → (ranges : List Range) → StateValue
with_stack a marks ranges = record { kinds = a.kinds; marks = marks; ranges = ranges }

-- after a helper's call: r0 is any number, r1 to r5 are unset
abbrev pub after_call : StateValue → StateValue
after_call a =
    with_kind (with_kind
    (with_kind (with_kind (with_kind (with_kind a 0 (Num (whole_range Bits64))) 1 Unset) 2 Unset) 3 Unset) 4 Unset)
    5 Unset

-- the kinds of r0 to r10 at entry, by the calling rules (a choice of this project)
abbrev pub entry_kinds : List AbsKind
entry_kinds =
    Unset ∷ Ptr Front (pos 0, pos 0) ∷ Ptr Tail (pos 0, pos 0) ∷ Num (0, 31) ∷ Unset ∷ Unset ∷ Unset ∷ Unset ∷ Unset
    ∷ Unset
    ∷ Ptr Stack (pos 0, pos 0) ∷ []

-- what is known at entry: these kinds, no byte is set, and nothing is known of any word
pub record IsEntry (a : StateValue) : Type 0 where
  pub kinds : a.kinds ≡ entry_kinds
  pub marks : (place : ℕ) → mark_at a.marks place ≡ false
  pub ranges : AreAllWhole a.ranges

-- each kind of the first list is contained in that of the second
abbrev pub AreKindsBelow : List AbsKind → List AbsKind → Type 0
AreKindsBelow first second = (register : ℕ) → IsKindBelow (kind_in first register) (kind_in second register)

-- the first says all that the second says
pub record IsStateBelow (a b : StateValue) : Type 0 where
  pub kinds : AreKindsBelow a.kinds b.kinds
  pub marks : AreMarkedIn b.marks a.marks
  pub ranges : AreRangesWithin a.ranges b.ranges

-- ---- what else contracts and proofs say

-- register by register the least kind above both
abbrev pub AreJoined : List AbsKind → List AbsKind → List AbsKind → Type 0
AreJoined first second joint =
    (register : ℕ) → kind_in joint register ≡ joined_kinds (kind_in first register) (kind_in second register)

-- Register by register the least kind above both, and word by word the least range that holds both. A byte is set if
-- it is set in both.
pub record IsStateJoin (a b joint : StateValue) : Type 0 where
  pub kinds : AreJoined a.kinds b.kinds joint.kinds
  pub marks : AreInBoth a.marks b.marks joint.marks
  pub ranges : AreRangesJoined a.ranges b.ranges joint.ranges

-- the same kind of each register, the same mark of each byte, and the same range of each word
pub record AreAlike (a b : StateValue) : Type 0 where
  pub kinds : (register : ℕ) → kind_at a register ≡ kind_at b register
  pub marks : (place : ℕ) → mark_at a.marks place ≡ mark_at b.marks place
  pub ranges : (word : ℕ) → range_at a word ≡ range_at b word
