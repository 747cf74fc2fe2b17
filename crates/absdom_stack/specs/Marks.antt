-- Which bytes of the stack are set: a mark for each place (a choice of this project).
use Rattle.std.specs.Prelude.{◌≡◌, ◌≤◌, ℕ, zero, suc, ◌+◌, Bool, true, false, ◌&&◌, ◌==◌, if◌then◌else◌, List, slice_index_or, slice_set}
use Rattle.machine.specs.declared.regions.TheConstants.{STACK_SIZE}

-- ---- the statement

-- whether the byte at a place is known to be set
abbrev pub mark_at : List Bool → ℕ → Bool
mark_at marks place = slice_index_or marks place false

-- whether `count` bytes from a place are known to be set
unfoldable pub all_marked : List Bool → (first count : ℕ) → Bool
all_marked marks first zero = true
all_marked marks first (suc count) = all_marked marks first count && mark_at marks (first + count)

-- the marks after a write of `bytes` bytes from a place
unfoldable pub marks_after : List Bool → (first bytes : ℕ) → List Bool
marks_after marks first zero = marks
marks_after marks first (suc bytes) = slice_set (marks_after marks first bytes) (first + bytes) true

-- a store of `bytes` bytes sets them if it has one place, and no other byte
abbrev pub stored_marks : List Bool → (bytes : ℕ) → ℕ × ℕ → List Bool
stored_marks marks bytes places = if places.0 == places.1 then marks_after marks places.0 bytes else marks

-- each mark of the first list is in the second too
abbrev pub AreMarkedIn : (first second : List Bool) → Type 0
AreMarkedIn first second = (place : ℕ) → mark_at first place ≡ true → mark_at second place ≡ true

-- ---- what else contracts and proofs say

-- the marks that are in both lists
abbrev pub AreInBoth : (first second both : List Bool) → Type 0
AreInBoth first second both = (place : ℕ) → mark_at both place ≡ (mark_at first place && mark_at second place)

-- the bytes at both places lie in the stack
pub record AreInside (bytes : ℕ) (places : ℕ × ℕ) : Type 0 where
  pub first : places.0 + bytes ≤ STACK_SIZE
  pub last : places.1 + bytes ≤ STACK_SIZE
