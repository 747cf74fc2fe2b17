-- The verifier's table: what is known at slot 0 and at the slots to which the program jumps, and at no other.
use Rattle.std.specs.Prelude.{◌≡◌, ◌<◌, ℕ, Bool, ◌&&◌, ◌==◌, nat_lt, if◌then◌else◌, List, length, slice_index_or}
use Rattle.std.specs.Prelude.{Option, Some, None}
use Rattle.bpf.specs.Program.{Program}
use Rattle.absdom.specs.State.{StateValue}
use Rattle.bver_form.specs.Targets.{IsKept, NumbersSlot, place_at}

-- a program, the place of each slot's entry, and the entries
pub record TableValue : Type 0 where
  pub program : Program
  pub places : List ℕ
  pub entries : List (Option StateValue)

-- the slot has an entry: its place is one of the entries'
abbrev pub HasEntry : TableValue → (slot : ℕ) → Type 0
HasEntry t slot = place_at t.places slot < length t.entries

-- the place of a slot's entry, if it has one
abbrev pub entry_place_of : TableValue → (slot : ℕ) → Option ℕ
entry_place_of t slot = if nat_lt (place_at t.places slot) (length t.entries) then Some (place_at t.places slot) else None

-- what is known at a slot
abbrev pub knowledge_in : TableValue → (slot : ℕ) → Option StateValue
knowledge_in t slot = slice_index_or t.entries (place_at t.places slot) None

-- there is an entry for slot 0 and each slot to which the program jumps, by rising slot, and for no other
pub record AreEntries (t : TableValue) : Type 0 where
  pub size : length t.places ≡ length t.program.slots
  pub all : (slot : ℕ) → IsKept t.program slot → HasEntry t slot
  pub only : (slot : ℕ) → HasEntry t slot → IsKept t.program slot
  pub used : (place : ℕ) → place < length t.entries → NumbersSlot t.places place
  pub rising : (a b : ℕ) → a < b → HasEntry t a → HasEntry t b → place_at t.places a < place_at t.places b

-- what is known at a slot, if a running state may be at the next one
abbrev pub knowledge_beside : TableValue → (runs : Bool) (next : ℕ) → StateValue → (slot : ℕ) → Option StateValue
knowledge_beside t runs next state slot = if runs && slot == next then Some state else knowledge_in t slot

-- what is known at the next slot, if a running state may be there
abbrev pub knowledge_next : TableValue → (runs : Bool) (next : ℕ) → StateValue → Option StateValue
knowledge_next t runs next state = knowledge_beside t runs next state next
