-- Ranges of a table that no rule names.
use Rattle.std.specs.Prelude.{◌≡◌, is_some, ℕ, suc, Bool, false, not, bytes_eq, if◌then◌else◌, List, [], ◌∷◌, ◌++◌, codes}
use Rattle.std.specs.Prelude.{Option, Some, None}
use Rattle.std.specs.Borrow.{Bor}
use Rattle.std.specs.List.{list_any}
use Rattle.policy_table.specs.Ranges.{place_in}
use Rattle.policy_table.specs.Refined.{fifth_word}
use Rattle.policy_table.specs.Statements.{statement_words}

-- the name that words give to a range, if they give one
abbrev pub range_name : (words : List (List ℕ)) → Option (List ℕ)
range_name [] = None
range_name (first ∷ []) = None
range_name (first ∷ name ∷ rest) = if bytes_eq first (codes ".range") then Some name else None

-- there is a word, and it is this one
abbrev pub is_this_word : Option (List ℕ) → (name : List ℕ) → Bool
is_this_word None name = false
is_this_word (Some word) name = bytes_eq word name

-- the line has this name in place of two addresses
abbrev pub has_name : (name line : List ℕ) → Bool
has_name name line = is_this_word (fifth_word (statement_words line)) name

-- there is a name, and no line has it in place of two addresses
abbrev pub is_named_by_none : List (List ℕ) → Option (List ℕ) → Bool
is_named_by_none lines None = false
is_named_by_none lines (Some name) = not (list_any (has_name name) lines)

-- the line gives a name to a range that no line has
abbrev pub is_unused : (lines : List (List ℕ)) → (line : List ℕ) → Bool
is_unused lines line = is_named_by_none lines (range_name (statement_words line))

-- this number, if it is wanted
abbrev pub number_if : Bool → ℕ → List ℕ
number_if wanted number = if wanted then number ∷ [] else []

-- the numbers of such lines among some, of which the first has this one
abbrev pub unused_from : (lines : List (List ℕ)) → (number : ℕ) → List (List ℕ) → List ℕ
unused_from lines number [] = []
unused_from lines number (line ∷ rest) = number_if (is_unused lines line) number ++ unused_from lines (suc number) rest

-- the numbers of the lines of ranges that no rule names; lines count from 1
abbrev pub unused_ranges : (lines : List (List ℕ)) → List ℕ
unused_ranges lines = unused_from lines 1 lines

-- the map has each word that one of the lines has in place of two addresses, and no other
abbrev pub AreUsed : List (Bor (List ℕ) × ℕ) → (lines : List (List ℕ)) → Type 0
AreUsed entries lines = (name : List ℕ) → is_some (place_in entries name) ≡ list_any (has_name name) lines
