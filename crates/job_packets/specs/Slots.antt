-- The slots of loads, as a word writes them.
use Rattle.std.specs.Prelude.{◌≡◌, ◌⊎◌, ℕ, List, [], ◌∷◌, map, All, codes}
use Rattle.std.specs.Str.Parse.{digits_value}
use Rattle.job_parts.specs.Options.{IsNumberWithin, list_parts}

-- the four slots of a node's programs
abbrev pub every_slot : List ℕ
every_slot = 0 ∷ 1 ∷ 2 ∷ 3 ∷ []

-- each part of a list is a decimal number from 0 to 3, and the slots are these numbers
abbrev pub WriteSlots : (parts : List (List ℕ)) → (slots : List ℕ) → Type 0
WriteSlots parts slots = All (λ part. IsNumberWithin 0 3 part) parts × (slots ≡ map (λ part. digits_value 10 part) parts)

-- the word writes the slots: `all` each of the four, and else a list with commas
abbrev pub WritesSlots : (word : List ℕ) → (slots : List ℕ) → Type 0
WritesSlots word slots = ((word ≡ codes "all") × (slots ≡ every_slot)) ⊎ WriteSlots (list_parts word) slots
