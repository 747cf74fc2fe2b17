-- The slots of names.
use Rattle.std.specs.Prelude.{◌≡◌, ◌↔◌, ℕ, List, [], ◌∷◌, ◌++◌, Bool, Option, None, IsTrue}
use Rattle.std.specs.Ordering.{nat_cmp, is_eq}
use Rattle.std.specs.Cmp.Lexicographic.{slice_cmp}
use Rattle.std.specs.Map.{lookup}

-- the slot of a name
abbrev pub slot_named : List (List ℕ × ℕ) → List ℕ → Option ℕ
slot_named pairs name = lookup (λ key. is_eq (slice_cmp nat_cmp name key)) pairs

-- one name more gets a slot, unless it had one: a name keeps its first slot
abbrev pub HasOneMore : (old new : List (List ℕ × ℕ)) (name : List ℕ) (slot : ℕ) → Type 0
HasOneMore old new name slot = (other : List ℕ) → slot_named new other ≡ slot_named (old ++ (name, slot) ∷ []) other

-- the answer says whether the name had no slot
abbrev pub IsNew : (names : List (List ℕ × ℕ)) (name : List ℕ) → (answer : Bool) → Type 0
IsNew names name answer = IsTrue answer ↔ (slot_named names name ≡ None)
