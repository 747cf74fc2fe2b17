-- Names of places in a program.
use Rattle.std.specs.Prelude.{◌≡◌, ◌≢◌, ℕ, Bool, true, false, ◌&&◌, ◌||◌, ◌==◌, List, [], ◌∷◌, ◌++◌}
use Rattle.std.specs.Char.{is_ascii_alphabetic, is_ascii_alphanumeric}
use Rattle.std.specs.List.{list_all}

-- ---- the statement

-- a letter, a digit or an underscore
abbrev pub is_name_byte : ℕ → Bool
is_name_byte c = is_ascii_alphanumeric c || c == 95

-- a letter, and then letters, digits and underscores
abbrev pub is_name : List ℕ → Bool
is_name [] = false
is_name (c ∷ cs) = is_ascii_alphabetic c && list_all is_name_byte (c ∷ cs)

-- the word is a name
abbrev pub IsName : List ℕ → Type 0
IsName word = is_name word ≡ true

-- ---- what else contracts and proofs say

-- the word defines the name: it is the name and a colon (58)
abbrev pub DefinesName : (word name : List ℕ) → Type 0
DefinesName word name = IsName name × (word ≡ name ++ 58 ∷ [])

-- the word defines no name
abbrev pub DefinesNoName : (word : List ℕ) → Type 0
DefinesNoName word = (name : List ℕ) → IsName name → word ≢ name ++ 58 ∷ []
