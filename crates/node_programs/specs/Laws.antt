-- Laws of published programs.
use Rattle.std.specs.Prelude.{◌≡◌, ◌≢◌, ◌<◌, ◌⊎◌, ℕ, ◌==◌, List, [], ◌∷◌, ◌++◌, length, Some, cond}
use mathlib.Core.List.{IsPrefix}
use Rattle.bver.specs.Justified.{AcceptedValue}
use Rattle.node_programs.specs.declared.publishes.Publish.{Publish}
use Rattle.node_programs.specs.Histories.{longer_history}
use Rattle.node_programs.specs.Published.{judging_program}

-- one publish more sets its own slot, with its place for a generation, and leaves the others
abbrev pub IsSetByNext : Type 0
IsSetByNext = (history : List Publish) (slot : ℕ) (program : AcceptedValue) (k : ℕ) → 0 < length history
    → judging_program (longer_history history slot program) k
    ≡ cond (slot == k) (Some (program, length history)) (judging_program history k)

-- none of these was published for the slot
abbrev pub AreOthers : ℕ → List Publish → Type 0
AreOthers k [] = Unit {0}
AreOthers k (p ∷ ps) = (p.slot ≢ k) × AreOthers k ps

-- the history has that program at that place, the factory's or one for the slot, and after it none for the slot
pub record IsLast (history : List Publish) (k : ℕ) (judge : AcceptedValue) (place : ℕ) : Type 0 where
  pub before : List Publish
  pub last : Publish
  pub after : List Publish
  pub parts : history ≡ before ++ last ∷ after
  pub count : length before ≡ place
  pub program : last.program ≡ judge
  pub slot : (before ≡ []) ⊎ (last.slot ≡ k)
  pub others : AreOthers k after

-- what is published for a slot is the last of it
abbrev pub IsLastFor : Type 0
IsLastFor =
    (history : List Publish) (slot : ℕ) (program : AcceptedValue) (generation : ℕ) → judging_program history slot
    ≡ Some (program, generation) → IsLast history slot program generation

-- its generation is a place in the history
abbrev pub IsGenerationBelow : Type 0
IsGenerationBelow =
    (history : List Publish) (slot : ℕ) (program : AcceptedValue) (generation : ℕ) → judging_program history slot
    ≡ Some (program, generation) → generation < length history

-- the program with its generation is that one with that place, or one of a later place
abbrev pub IsThatOrLater : AcceptedValue → ℕ → AcceptedValue × ℕ → Type 0
IsThatOrLater program place shown = ((shown.0 ≡ program) × (shown.1 ≡ place)) ⊎ (place < shown.1)

-- after a publish for a slot that program is published there, or a later one
abbrev pub IsKeptOrLater : Type 0
IsKeptOrLater = (history seen : List Publish) (slot : ℕ) (program judge : AcceptedValue) (generation : ℕ)
    → IsPrefix (longer_history history slot program) seen → judging_program seen slot ≡ Some (judge, generation)
    → IsThatOrLater program (length history) (judge, generation)
