-- The slots at which the verifier keeps what is known: slot 0 and those to which a jump leads. They are numbered.
use Rattle.std.specs.Prelude.{◌≡◌, ◌<◌, ◌≤◌, ℕ, ℤ, ◌⊎◌, false, List, Bool, length, Option, Some, None, IsSome, IsTrue}
use Rattle.std.specs.Prelude.{slice_index_or}
use Rattle.bpf.specs.Program.{Program, insn_at}
use Rattle.bpf_insn.specs.declared.insn.Insn.{Insn}
use Rattle.bver_form.specs.Jumps.{first_slot, jump_distance, target}

-- ---- the slots to which jumps lead

-- the slot to which a jump by this distance leads from the slot, if there is one
abbrev pub landing_by : Program → (slot : ℕ) → Option ℤ → Option ℕ
landing_by p slot None = None
landing_by p slot (Some distance) = first_slot p (target slot distance)

-- the slot to which the instruction jumps that begins at the slot, if one does and jumps
abbrev pub landing_from : Program → (slot : ℕ) → Option Insn → Option ℕ
landing_from p slot None = None
landing_from p slot (Some insn) = landing_by p slot (jump_distance insn)

-- the instruction at the one slot jumps to the other
abbrev pub JumpsTo : Program → (from slot : ℕ) → Type 0
JumpsTo p from slot = landing_from p from (insn_at p from) ≡ Some slot

-- an instruction of the program jumps to the slot
pub record IsTarget (p : Program) (slot : ℕ) : Type 0 where
  pub from : ℕ
  pub jumps : JumpsTo p from slot

-- slot 0, or one to which the program jumps
abbrev pub IsKept : Program → (slot : ℕ) → Type 0
IsKept p slot = (slot ≡ 0) ⊎ IsTarget p slot

-- an instruction begins at the slot, and none jumps there
pub record IsPlain (p : Program) (slot : ℕ) : Type 0 where
  pub begins : IsSome (insn_at p slot)
  pub unkept : IsKept p slot → ⊥

-- ---- their marks

-- the slot is marked
abbrev pub IsMarked : List Bool → (slot : ℕ) → Type 0
IsMarked marks slot = IsTrue (slice_index_or marks slot false)

-- the slots that are kept are marked, and no other
pub record AreKept (p : Program) (marks : List Bool) : Type 0 where
  pub all : (slot : ℕ) → IsKept p slot → IsMarked marks slot
  pub only : (slot : ℕ) → IsMarked marks slot → IsKept p slot

-- ---- their numbers

-- the number of a slot that has none
abbrev pub no_place : ℕ
no_place = 65535

-- the number of a slot
abbrev pub place_at : List ℕ → (slot : ℕ) → ℕ
place_at places slot = slice_index_or places slot no_place

-- a slot has that number
pub record NumbersSlot (places : List ℕ) (place : ℕ) : Type 0 where
  pub slot : ℕ
  pub is : place_at places slot ≡ place

-- the marked slots are numbered from 0, by rising slot, and no other; `count` is how many there are
pub record IsNumbered (marks : List Bool) (places : List ℕ) (count : ℕ) : Type 0 where
  pub size : length places ≡ length marks
  pub all : (slot : ℕ) → IsMarked marks slot → place_at places slot < count
  pub only : (slot : ℕ) → place_at places slot < count → IsMarked marks slot
  pub used : (place : ℕ) → place < count → NumbersSlot places place
  pub rising : (a b : ℕ) → a < b → place_at places a < count → place_at places b < count
      → place_at places a < place_at places b

-- the marked slots before one are numbered, and no other
pub record IsNumbering (marks : List Bool) (places : List ℕ) (count upto : ℕ) : Type 0 where
  pub size : length places ≡ length marks
  pub few : count ≤ upto
  pub all : (slot : ℕ) → slot < upto → IsMarked marks slot → place_at places slot < count
  pub only : (slot : ℕ) → place_at places slot < count → IsMarked marks slot
  pub used : (place : ℕ) → place < count → NumbersSlot places place
  pub either : (slot : ℕ) → (place_at places slot < count) ⊎ (place_at places slot ≡ no_place)
  pub rest : (slot : ℕ) → upto ≤ slot → place_at places slot ≡ no_place
  pub rising : (a b : ℕ) → a < b → place_at places a < count → place_at places b < count
      → place_at places a < place_at places b
